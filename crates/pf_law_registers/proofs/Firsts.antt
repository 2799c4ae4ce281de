-- A port whose writes of a sector come first.
use Rattle.std.proofs.Common.{◌≡◌, ℕ, zero, suc, ◌<◌, ◌≤◌, ◌⊎◌, inl, inr, List, [], ◌∷◌, ◌++◌, length, Some, slice_get, arith, refl, sym, ap, subst, ◌∙◌}
use Rattle.std.proofs.lemmas.Bool.{cases_eq}
use Rattle.std.proofs.lemmas.Option.{slice_get_within}
use Rattle.pf_entry.specs.Ops.{Sector}
use Rattle.pf_protocol.specs.Servers.{Setup}
use Rattle.pf_protocol.specs.Histories.{History, IsPrefix}
use Rattle.pf_protocol.specs.Ports.{Submission, submitting, WriteHasEnded, FollowsRule}
use Rattle.pf_protocol.proofs.ForPorts.{one_chosen_op, comes_op}
use Rattle.pf_law_registers.specs.Orders.{Member, given, IsOrder}
use Rattle.pf_law_registers.specs.Sectors.{IsCopyAt}
use Rattle.pf_law_registers.specs.Firsts.{IsFirstAcked, ComeFirst}
use Rattle.pf_law_registers.proofs.Lists.{something_there}
use Rattle.pf_law_registers.proofs.WriteSubmissions.{source}
use Rattle.pf_law_registers.proofs.SubmissionPorts.{ports_own}
use Rattle.pf_law_registers.proofs.Sectors.{in_order_between}

module _ (setup : Setup) (history : History) (x : ℕ) (order : List Member) (port : List Submission) (is : IsOrder setup history x order) (rule : FollowsRule setup history port) (leads : IsFirstAcked setup history port x) where
  record Own (place : ℕ) : Type 0 where
    k : ℕ
    submission : Submission
    there : slice_get port k ≡ Some submission
    copy : IsCopyAt setup history order place submission

  -- the place is of a submission that was made after the port's writes were acknowledged
  record After (place : ℕ) : Type 0 where
    submission : Submission
    made : IsPrefix (submission.before ++ submitting submission ∷ []) history
    copy : IsCopyAt setup history order place submission
    ended : (k : ℕ) (a : Submission) (its : Sector) → slice_get port k ≡ Some a → given a.op x ≡ Some its → WriteHasEnded setup port submission.before a.write

  whose : (place : ℕ) → place < length order → Own place ⊎ After place
  whose place lt =
      let found = something_there order place lt in
      let w = is.each place found.0 found.1 in
      let s = source setup history found.0.slot w.term w.op x found.0.bytes w.chosen w.gives in
      elim (leads s.submission.before s.submission.server s.submission.op s.submission.answer found.0.bytes s.made s.comes.copy.took_place (ap (λ o. given o x) s.same_op ∙ w.gives)) [
        | inl ports ↦
            let o = ports_own setup port history found.0.slot w.op s ports in
            inl (record { k = o.k; submission = o.submission; there = o.there; copy = record { member = found.0; there = found.1; comes = o.comes } })
        | inr ended ↦ inr (record { submission = s.submission; made = s.made; copy = record { member = found.0; there = found.1; comes = s.comes }; ended = ended })
      ]

  -- the port's places come first, up to one that is not
  record Firsts (n : ℕ) : Type 0 where
    made : ℕ
    low : made ≤ n
    first : (place : ℕ) → place < made → Own place
    stops : (made ≡ n) ⊎ ((made < n) × After made)

  firsts : (n : ℕ) → n ≤ length order → Firsts n
  firsts zero le = record { made = 0; low = omega arith; first = λ place lt. absurd (omega (arith, lt)); stops = inl refl }
  firsts (suc n) le =
      let f = firsts n (omega (arith, le)) in
      elim f.stops [
        | inr stopped ↦ record { made = f.made; low = omega (arith, f.low); first = f.first; stops = inr (omega (arith, stopped.0), stopped.1) }
        | inl all ↦ elim (whose n (omega (arith, le))) [
          | inl own ↦ record {
            made = suc n;
            low = omega arith;
            first = λ place lt. elim (cases_eq place n) [
              | inl same ↦ subst Own (sym same) own
              | inr apart ↦ f.first place (omega (arith, all, apart, lt))
            ];
            stops = inl refl;
          }
          | inr after ↦ record { made = f.made; low = omega (arith, f.low); first = f.first; stops = inr (omega (arith, all), subst After (sym all) after) }
        ]
      ]

  pub gives_it : (place : ℕ) (a : Submission) (c : IsCopyAt setup history order place a) → given a.op x ≡ Some c.member.bytes
  gives_it place a c =
      let w = is.each place c.member c.there in
      let same : c.comes.op ≡ w.op = one_chosen_op setup history c.member.slot c.comes.term w.term c.comes.op w.op c.comes.chosen w.chosen in
      ap (λ o. given o x) (sym (comes_op setup history c.member.slot a c.comes) ∙ same) ∙ w.gives

  pub come_first : (made : ℕ) × ComeFirst setup history order port made
  come_first =
      let f = firsts (length order) (omega arith) in (
        f.made,
        record {
          within = f.low;
          first = λ place lt. let o = f.first place lt in (o.k, o.submission, o.there, o.copy);
          none_later = λ place k a reaches at copy. elim f.stops [
            | inl all ↦ omega (arith, all, reaches, slice_get_within order place copy.member copy.there)
            | inr stopped ↦
                let less = in_order_between setup history x order is port rule k a stopped.1.submission place f.made at stopped.1.made (stopped.1.ended k a copy.member.bytes at (gives_it place a copy)) copy stopped.1.copy in
                omega (arith, less, reaches)
          ];
        },
      )

pub firsts_come : (setup : Setup) (history : History) (x : ℕ) (order : List Member) (port : List Submission) → IsOrder setup history x order → FollowsRule setup history port → IsFirstAcked setup history port x → (made : ℕ) × ComeFirst setup history order port made
firsts_come setup history x order port is rule leads = come_first setup history x order port is rule leads
