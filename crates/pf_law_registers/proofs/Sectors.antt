-- Each sector is a register, and the copies of a port's writes stand in its order.
use Rattle.std.proofs.Common.{◌≡◌, ℕ, ◌<◌, ◌≤◌, inl, inr, List, Some, slice_get, arith, sym, ap, ◌∙◌}
use Rattle.std.proofs.lemmas.Bool.{cases_lt}
use Rattle.std.proofs.lemmas.Option.{same_Some}
use Rattle.pf_entry.specs.declared.ops.Op.{Op}
use Rattle.pf_protocol.specs.Servers.{Setup}
use Rattle.pf_protocol.specs.Groups.{Answered}
use Rattle.pf_protocol.specs.Histories.{History, IsPrefix, replay, IsChosen}
use Rattle.pf_protocol.specs.Ports.{Submission, FollowsRule}
use Rattle.pf_protocol.proofs.ForPorts.{one_chosen_op, above_zero, chosen_after, ordered, ordered_between}
use Rattle.pf_protocol.proofs.ForHistories.{fresh}
use Rattle.pf_law_registers.specs.Orders.{Member, given, IsOrder, values_of}
use Rattle.pf_law_registers.specs.Registers.{IsRegister}
use Rattle.pf_law_registers.specs.Sectors.{ReadGives, IsAnsweredBefore, IsAckedBefore, IsAskedBefore, SectorRegister, IsInPortsOrder, IsInOrderBetween}
use Rattle.pf_law_registers.proofs.Lists.{something_there, length_mapped}
use Rattle.pf_law_registers.proofs.Orders.{order_there}
use Rattle.pf_law_registers.proofs.ShownWrites.{shown, shown_within, had, gives, has_acked, grows, had_applied}
use Rattle.pf_law_registers.proofs.WriteSubmissions.{source}

module _ (setup : Setup) (history : History) (x : ℕ) (order : List Member) (is : IsOrder setup history x order) where
  -- a write that a read shows was chosen by the time of its answer
  pub record Then (now : History) (m : Member) : Type 0 where
    pub term : ℕ
    pub op : Op
    pub chosen : IsChosen setup now m.slot term op
    pub gives : given op x ≡ Some m.bytes

  pub chosen_then : (a : Answered) (now : History) (k : ℕ) → IsPrefix now history → slice_get (replay setup now).answered k ≡ Some a → (place : ℕ) (m : Member) → slice_get order place ≡ Some m → place < shown setup history x order is a → Then now m
  chosen_then a now k p at place m there lt =
      let w = is.each place m there in
      let did = had setup history x order is a place m there lt in
      let c = (fresh setup now k a at).covered.chosen m.slot (above_zero setup history m.slot w.term w.op w.chosen) did in
      let same : w.op ≡ c.0 = one_chosen_op setup history m.slot w.term c.1.0 w.op c.0 w.chosen (chosen_after setup now history p m.slot c.1.0 c.0 c.1.2) in
      record { term = c.1.0; op = c.0; chosen = c.1.2; gives = ap (λ o. given o x) (sym same) ∙ w.gives }

  asked : (a : Answered) (place : ℕ) → place < shown setup history x order is a → IsAskedBefore setup history order place a
  asked a place lt now k p at =
      let found = something_there order place (omega (arith, lt, shown_within setup history x order is a)) in
      let c = chosen_then a now k p at place found.0 found.1 lt in
      let s = source setup now found.0.slot c.term c.op x found.0.bytes c.chosen c.gives in
      record { member = found.0; there = found.1; submission = s.submission; made = s.made; comes = s.comes }

  pub register_of : IsRegister (values_of order) (shown setup history x order is) (ReadGives setup history x) (IsAnsweredBefore setup history x) (IsAckedBefore setup history x order) (IsAskedBefore setup history order)
  register_of = record {
    within = λ a. omega (arith, shown_within setup history x order is a, length_mapped (λ (m : Member). m.bytes) order);
    gives = gives setup history x order is;
    acked = has_acked setup history x order is;
    grows = grows setup history x order is;
    asked = asked;
  }

  register : SectorRegister setup history x
  register = record {
    order = order;
    is_order = is;
    shown = shown setup history x order is;
    is_register = register_of;
    had_applied = had_applied setup history x order is;
  }

  -- later places have no lower slots
  slots_rise : (j k : ℕ) (a b : Member) → slice_get order j ≡ Some a → slice_get order k ≡ Some b → j ≤ k → a.slot ≤ b.slot
  slots_rise j k a b at there le =
      elim (cases_lt j k) [
        | inl less ↦ omega (arith, is.ascends j k a b at there less)
        | inr not_less ↦
            let same : j ≡ k = omega (arith, le, not_less) in
            omega (arith, ap (λ m. m.slot) (same_Some a b (sym at ∙ ap (slice_get order) same ∙ there)))
      ]

  pub in_ports_order : (port : List Submission) → FollowsRule setup history port → IsInPortsOrder setup history port order
  in_ports_order port rule i j a b first second at_i at_j le one two =
      elim (cases_lt b.write a.write) [
        | inr not_lower ↦ not_lower
        | inl lower ↦
            let below = ordered setup history port rule j i b a two.member.slot one.member.slot at_j at_i lower two.comes one.comes in
            absurd (omega (arith, below, slots_rise first second one.member two.member one.there two.there le))
      ]

  pub in_order_between : (port : List Submission) → FollowsRule setup history port → IsInOrderBetween setup history port order
  in_order_between port rule i a b first second at_i happened ended one two =
      elim (cases_lt first second) [
        | inl before ↦ before
        | inr not_before ↦
            let less = ordered_between setup history port rule i a b one.member.slot two.member.slot at_i happened ended one.comes two.comes in
            absurd (omega (arith, less, slots_rise second first two.member one.member two.there one.there not_before))
      ]

pub sector_register : (setup : Setup) (history : History) (x : ℕ) → SectorRegister setup history x
sector_register setup history x = let o = order_there setup history x in register setup history x o.0 o.1

pub ports_order : (setup : Setup) (history : History) (x : ℕ) (order : List Member) (port : List Submission) → IsOrder setup history x order → FollowsRule setup history port → IsInPortsOrder setup history port order
ports_order setup history x order port is rule = in_ports_order setup history x order is port rule

pub order_between : (setup : Setup) (history : History) (x : ℕ) (order : List Member) (port : List Submission) → IsOrder setup history x order → FollowsRule setup history port → IsInOrderBetween setup history port order
order_between setup history x order port is rule = in_order_between setup history x order is port rule
