-- Writing a slip, for a host. Assumes nothing: these are definitions.
use Rattle.std.proofs.Math.Option.{Option, none, some}
use Rattle.base.specs.Le.{Bytes}
use Rattle.base.specs.Checks.{refused}
use Rattle.committee.specs.Committee.{Committee}
use Rattle.record_spec.specs.Reference.{TransactionLocator}
use Rattle.final_readings_spec.specs.Readings.{Reading}
use Rattle.slip_spec.specs.Writing.{Written, write_slip}
use Rattle.host_calls.specs.Calls.{committee_of}
use Rattle.host_locators.specs.Locators.{locator_of, refusal_before}

-- bytes that are no locator are malformed, 20, after 5 and 10 and before 52, 50
unfoldable pub asked_slip : Reading → Committee → Bytes → Option TransactionLocator → Bytes → Written
asked_slip reading c s none out = record { answer = refused (refusal_before 20 c s); out = out }
asked_slip reading c s (some l) out = write_slip reading c s out l

-- 02: "The node's writer makes, for every final locator, a slip", in either reading: its length, and the bytes of `out` afterwards
unfoldable pub write_slip_call : Reading → Bytes → Bytes → Bytes → Bytes → Written
write_slip_call reading stakes s b out = asked_slip reading (committee_of stakes) s (locator_of b) out
