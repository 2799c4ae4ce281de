-- What the records of a recoverable half spell, and in which place.
use Rattle.std.proofs.Common.{◌≢◌, ℕ, ◌<◌, zero, suc, List, [], ◌∷◌, length, get_or, refl, arith}
use Rattle.std.specs.List.{AllZip}
use Rattle.std.proofs.lemmas.List.Elements.{All-from_get_or, All-get_or}
use Rattle.pf_chunklog.specs.Records.{Raw}
use Rattle.pf_entry.specs.declared.records.Record.{Record}
use Rattle.pf_image.specs.Recovery.{AreRecoverable, IsChange, KindIsInPlace, IsSpelled, SpellsRecord}

spelled_at : (format : ℕ) (raws : List Raw) (rs : List Record) → AllZip (SpellsRecord format) raws rs → (k : ℕ) (d : Raw) → k < length raws → IsSpelled format (get_or raws k d)
spelled_at format [] rs all k d below = absurd (omega (arith, below))
spelled_at format (raw ∷ raws) [] all k d below = absurd all
spelled_at format (raw ∷ raws) (r ∷ rs) all zero d below = (r, all.0)
spelled_at format (raw ∷ raws) (r ∷ rs) all (suc k) d below = spelled_at format raws rs all.1 k d (omega (arith, below))

-- each is spelled and in its place
pub are_recoverable : (format : ℕ) (raws : List Raw) (rs : List Record) → raws ≢ [] → AllZip (SpellsRecord format) raws rs → ((k : ℕ) (d : Raw) → k < length raws → KindIsInPlace k (get_or raws k d).0) → AreRecoverable format raws
are_recoverable format [] rs some all placed = absurd (some refl)
are_recoverable format (image ∷ changes) [] some all placed = absurd all
are_recoverable format (image ∷ changes) (r ∷ rs) some all placed = (
  ((placed zero image (omega arith)).0 refl, (r, all.0)),
  All-from_get_or (IsChange format) changes image (λ k below. (λ first. absurd (omega (arith, (placed (suc k) image (omega (arith, below))).1 first)), spelled_at format changes rs all.1 k image below)),
)

pub in_place : (format : ℕ) (raws : List Raw) → AreRecoverable format raws → (k : ℕ) (d : Raw) → k < length raws → KindIsInPlace k (get_or raws k d).0 × IsSpelled format (get_or raws k d)
in_place format [] are k d below = absurd are
in_place format (image ∷ changes) are zero d below = ((λ _. are.0.0, λ _. refl), are.0.1)
in_place format (image ∷ changes) are (suc k) d below =
    let change : IsChange format (get_or changes k d) = All-get_or (IsChange format) changes k d (omega (arith, below)) are.1 in
    ((λ first. absurd (omega (arith, first)), λ is. absurd (change.0 is)), change.1)
