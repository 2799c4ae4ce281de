-- Histories to which a call added something, one part after another.
use Rattle.std.proofs.Common.{◌≡◌, ℕ, ◌+◌, cond, [], ◌++◌, drop, length, refl, sym, ap, ◌∙◌, append_assoc, arith}
use Rattle.std.proofs.Math.Seq.{drop-append_seam}
use Rattle.std.proofs.lemmas.List.{append-nil}
use Rattle.std.proofs.lemmas.List.Sums.{sum_by-append}
use Rattle.pf_entry.proofs.Lists.{every_append}
use Rattle.pf_protocol.specs.Histories.{History}
use Rattle.pf_group.specs.Going.{Stays}
use Rattle.pf_group.specs.GroupIs.{GroupIs}
use Rattle.pf_group_rounds.specs.Adding.{Adds, GroupGoes, with_more}
use Rattle.pf_group_rounds.specs.Growing.{HasGrown}
use Rattle.pf_group_rounds.specs.Rounds.{finishes, finishes_since, is_finish}
use Rattle.pf_group_rounds.specs.Jobs.{IsOfRound, is_job}
use Rattle.pf_group.proofs.Chains.{by_both}
use Rattle.pf_group_rounds.proofs.FaultCounts.{pays_refl, pays_trans}

pub nothing_more : (g : GroupIs) → g ≡ with_more g [] g
nothing_more g = ap (λ (history : History). record g { history = history }) (sym (append-nil g.history))

pub both_more : (a b c : GroupIs) (x y : History) → b ≡ with_more a x b → c ≡ with_more b y c → c ≡ with_more a (x ++ y) c
both_more a b c x y first second =
    second
    ∙ (ap (λ (g : GroupIs). with_more g y c) first ∙ ap (λ (history : History). record a { history = history; faults = c.faults; time = c.time }) (append_assoc a.history x y))

pub goes_refl : (g : GroupIs) → GroupGoes g g
goes_refl g = record { more = []; recorded = nothing_more g; paid = pays_refl g; by = Stays }

pub goes_trans : (a b c : GroupIs) → GroupGoes a b → GroupGoes b c → GroupGoes a c
goes_trans a b c first second = record {
  more = first.more ++ second.more;
  recorded = both_more a b c first.more second.more first.recorded second.recorded;
  paid = pays_trans a b c first.paid second.paid;
  by = by_both a b c first.by second.by;
}

pub adds_refl : (g : GroupIs) → Adds g g 0 0
adds_refl g = record { more = []; recorded = nothing_more g; paid = pays_refl g; by = Stays; round = tt; jobs = refl; finished = refl }

pub adds_trans : (a b c : GroupIs) (i j k l : ℕ) → Adds a b i j → Adds b c k l → Adds a c (i + k) (j + l)
adds_trans a b c i j k l first second = record {
  more = first.more ++ second.more;
  recorded = both_more a b c first.more second.more first.recorded second.recorded;
  paid = pays_trans a b c first.paid second.paid;
  by = by_both a b c first.by second.by;
  round = every_append IsOfRound first.more second.more first.round second.round;
  jobs = sum_by-append (λ h. cond (is_job h.answer) 1 0) first.more second.more ∙ omega (arith, first.jobs, second.jobs);
  finished = sum_by-append (λ h. cond (is_finish h.event) 1 0) first.more second.more ∙ omega (arith, first.finished, second.finished);
}

pub adds_goes : (a b : GroupIs) (i j : ℕ) → Adds a b i j → GroupGoes a b
adds_goes a b i j adds = record { more = adds.more; recorded = adds.recorded; paid = adds.paid; by = adds.by }

pub goes_on : (a b c : GroupIs) (i j : ℕ) → Adds a b i j → GroupGoes b c → GroupGoes a c
goes_on a b c i j adds goes = goes_trans a b c (adds_goes a b i j adds) goes

pub grown : (a b : GroupIs) → GroupGoes a b → HasGrown a b
grown a b goes = record {
  number = ap (λ (g : GroupIs). g.number) goes.recorded;
  told = ap (λ (g : GroupIs). g.told) goes.recorded;
  setup = ap (λ (g : GroupIs). g.setup) goes.recorded;
  later = record { rest = goes.more; whole = sym (ap (λ (g : GroupIs). g.history) goes.recorded) };
  paid = λ told. goes.paid;
  by = ∣ goes.by ∣₁;
}

pub same_taken : (a b : GroupIs) → GroupGoes a b → b.taken ≡ a.taken
same_taken a b goes = ap (λ (g : GroupIs). g.taken) goes.recorded

pub finished_since : (a b : GroupIs) (i j : ℕ) → Adds a b i j → j ≡ finishes_since a.history b.history
finished_since a b i j adds =
    sym (ap (λ (g : GroupIs). finishes (drop (length a.history) g.history)) adds.recorded ∙ (ap finishes (drop-append_seam a.history adds.more) ∙ adds.finished))
