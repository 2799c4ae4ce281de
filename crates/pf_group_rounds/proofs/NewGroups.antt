-- In a new group nothing is left to apply.
use Rattle.std.proofs.Common.{◌≡◌, ℕ, Bool, true, false, cond, List, [], ◌∷◌, find, Some, None, refl, ap, ◌∙◌}
use Rattle.std.specs.FinMap
use Rattle.std.specs.FinMap.{get-empty}
use Rattle.std.specs.Ordering.{nat_cmp}
use Rattle.pf_protocol.specs.Servers.{Running, Unformatted, Server, Setup}
use Rattle.pf_protocol.specs.Saving.{claimable, is_claimable, restarted}
use Rattle.pf_protocol.specs.Groups.{least_claim, first_leader, opening, opening_disk}
use Rattle.pf_protocol.specs.Answers.{answer_to, claim_answer_at}
use Rattle.pf_protocol.specs.declared.answers.Answer.{Answer}
use Rattle.pf_protocol.specs.declared.answers.Answer.TheVariants.{Refused}
use Rattle.pf_protocol.specs.declared.answers.Refusal.TheVariants.{NoneFree}
use Rattle.pf_protocol.specs.declared.events.Event.TheVariants.{Claim}

module _ (s : Server) (bare : (slot : ℕ) → FinMap.get s.durable.log slot ≡ None) where
  none_in : (slots : List ℕ) → find (λ slot. is_claimable s (FinMap.get s.durable.log slot) slot) slots ≡ None
  none_in [] = refl
  none_in (slot ∷ slots) = ap (λ held. cond (is_claimable s held slot) (Some slot) (find (λ other. is_claimable s (FinMap.get s.durable.log other) other) slots)) (bare slot) ∙ none_in slots

  none_free : (window : ℕ) → claimable window s ≡ None
  unfolding claimable
  none_free window = none_in _

  passed_by : (window i : ℕ) (failed : Bool) (rest : Answer) → claim_answer_at i (Some (cond failed Unformatted (Running s))) (least_claim window (Some (cond failed Unformatted (Running s)))) rest ≡ rest
  passed_by window i true rest = refl
  passed_by window i false rest = ap (λ slot. claim_answer_at i (Some (Running s)) slot rest) (none_free window)

bare_leader : (setup : Setup) (slot : ℕ) → FinMap.get (first_leader setup).durable.log slot ≡ None
unfolding first_leader restarted opening_disk
bare_leader setup slot = get-empty nat_cmp slot

bare_follower : (setup : Setup) (i slot : ℕ) → FinMap.get (restarted i 0 (opening_disk setup)).durable.log slot ≡ None
unfolding restarted opening_disk
bare_follower setup i slot = get-empty nat_cmp slot

pub opening_is_applied : (setup : Setup) → answer_to setup (opening setup) Claim ≡ Refused NoneFree
unfolding answer_to opening
opening_is_applied setup =
    passed_by (first_leader setup) (bare_leader setup) setup.window 0 _ _
    ∙ passed_by (restarted 1 0 (opening_disk setup)) (bare_follower setup 1) setup.window 1 _ _
    ∙ passed_by (restarted 2 0 (opening_disk setup)) (bare_follower setup 2) setup.window 2 _ _
