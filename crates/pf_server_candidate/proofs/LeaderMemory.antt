-- What a new leader has in memory.
use Rattle.std.proofs.Common.{◌≡◌, ℕ, ◌<◌, true, false, List, [], ◌∷◌, ◌++◌, length, get_or, ◌==◌, arith, refl, sym, ap, subst, ◌∙◌}
use Rattle.std.proofs.lemmas.Bool.{false≢true}
use Rattle.std.specs.FinMap
use Rattle.pf_entry.specs.Lists.{Every}
use Rattle.pf_entry.specs.Maps.{Map}
use Rattle.pf_entry.specs.Records.{add_start, add_merged_start, put_entry, put_entries}
use Rattle.pf_entry.specs.declared.entries.Entry.{Entry}
use Rattle.pf_holes.specs.HoleLogs.{Holes}
use Rattle.pf_merge.proofs.AscendingLists.{every_at}
use Rattle.pf_server_candidate.specs.Merging.{EntryIsPlaced}

pub some_start : (starts : Map ℕ) (term first : ℕ) (es : List Entry) → (length es == 0) ≡ false → add_start starts term first ≡ add_merged_start starts term first es
unfolding add_merged_start
some_start starts term first [] some = absurd (false≢true (sym some))
some_start starts term first (e ∷ es) some = refl

pub no_start : (starts : Map ℕ) (term first : ℕ) (es : List Entry) → (length es == 0) ≡ true → starts ≡ add_merged_start starts term first es
unfolding add_merged_start
no_start starts term first [] none = refl
no_start starts term first (e ∷ es) none = absurd (grind (arith, none))

-- a log after each entry
abbrev pub with_entries : Holes → List Entry → Holes
with_entries log es = record log { entries = put_entries log.entries es }

pub each_at : (P : Entry → Type 0) (es : List Entry) (n : ℕ) (e : Entry) → Every P es → n < length es → e ≡ get_or es n e → P e
each_at P es n e each lt at = let (x, same, holds) = every_at (λ x. x.slot) (λ x. x) P es n e each lt (sym at) in subst P same holds

more_put : (log : Map Entry) (es : List Entry) (e : Entry) → put_entries log (es ++ e ∷ []) ≡ FinMap.insert (put_entries log es) e.slot e
unfolding put_entries put_entry
more_put log [] e = refl
more_put log (x ∷ xs) e = more_put (put_entry log x) xs e

pub none_put : (log : Holes) → log ≡ with_entries log []
unfolding put_entries
none_put log = refl

pub one_put : (log mid new : Holes) (es : List Entry) (e : Entry) → mid ≡ with_entries log es → new ≡ record mid { entries = FinMap.insert mid.entries e.slot e } → new ≡ with_entries log (es ++ e ∷ [])
one_put log mid new es e before put = put ∙ (λ i. record (before i) { entries = FinMap.insert (before i).entries e.slot e }) ∙ (λ i. record log { entries = sym (more_put log.entries es e) i })

pub next_placed : (log mid : Holes) (es all : List Entry) (e : Entry) → mid ≡ with_entries log es → Every (EntryIsPlaced log.base) all → (length es < length all) × (e ≡ get_or all (length es) e) → EntryIsPlaced mid.base e
next_placed log mid es all e before placed turn =
    subst (λ base. EntryIsPlaced base e) (sym (ap (λ (l : Holes). l.base) before)) (each_at (EntryIsPlaced log.base) all (length es) e placed turn.0 turn.1)
