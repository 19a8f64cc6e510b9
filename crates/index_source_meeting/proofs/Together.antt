-- A run against several sources, each of which has its offsets or begins past it. Assumes nothing.
use mathlib.Core.Path.{refl, ap, ◌∙◌}
use Rattle.committee_set.specs.AuthoritySet.{AuthoritySet, nobody, united}
use Rattle.committee_set.proofs.Words.{united_nobody}
use Rattle.record_spec.specs.Reference.{TransactionLocator, locator}
use Rattle.index_spec.specs.Runs.{Run}
use Rattle.index_source_meeting.specs.Source.{Meets}

module _ (x : Run) where
  pub meets_none : Meets x (λ l. nobody) nobody nobody
  meets_none = record { told = λ o i j. refl; end = refl; first = λ l q. refl }

  pub meets_both : (f g : TransactionLocator → AuthoritySet) (v w a b : AuthoritySet) → Meets x f v a → Meets x g w b → Meets x (λ l. united (f l) (g l))
      (united v w) (united a b)
  meets_both f g v w a b h k =
      record {
        told = λ o i j. ap (united (f (locator x.reference o))) (k.told o i j) ∙ ap (λ (u : AuthoritySet). united u w) (h.told o i j);
        end = ap (united (f (locator x.reference x.end))) k.end ∙ ap (λ (u : AuthoritySet). united u b) h.end;
        first = λ l q. ap (united (f l)) (k.first l q) ∙ ap (λ (u : AuthoritySet). united u nobody) (h.first l q) ∙ united_nobody nobody;
      }
