-- What the code's enum stands for. Assumes nothing: these are definitions.
use Rattle.std.specs.Prelude.{Bool, true, false}
use Rattle.list_readings_spec.specs.declared.FinalList.{FinalList}
use Rattle.list_readings_spec.specs.declared.FinalList.TheVariants.{Ordinary, Wide}

-- 02: "The ordinary listing shall show final locators that name a stored share; a second call keeps the wide list"
unfoldable pub is_ordinary : FinalList → Bool
is_ordinary Ordinary = true
is_ordinary Wide = false
