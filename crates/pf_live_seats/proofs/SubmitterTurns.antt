-- What a turn of the seat that submits adds to its own entries.
use Rattle.std.proofs.Common.{◌≡◌, ℕ, inl, inr, Bool, true, false, Option, None, Some, Result, Ok, Err, IfOk, OnErr, refl, sym, ap, subst}
use Rattle.pf_base.specs.declared.errors.NoMemory.{NoMemory}
use Rattle.pf_turn.specs.Lists.{entries_of}
use Rattle.pf_protocol.specs.Groups.{Group}
use Rattle.pf_protocol.specs.declared.answers.Answer.{Answer}
use Rattle.pf_shared.specs.pf_group.specs.GroupIs.{GroupIs}
use Rattle.pf_shared.specs.pf_group_network.specs.Shown.{is_acked}
use Rattle.pf_shared.specs.Calls.{Finds}
use Rattle.pf_shared.specs.Looks.{Looks}
use Rattle.pf_leadercell.specs.declared.cell.LeaderPass.{LeaderPass}
use Rattle.pf_rings.specs.declared.view.Request.{Request}
use Rattle.pf_live_seats.specs.Deliveries.{LiveTrace}
use Rattle.pf_live_seats.specs.declared.serving.Served.{Served}
use Rattle.pf_live_seats.specs.declared.serving.Standing.TheVariants.{Placed}
use Rattle.pf_live_seats.specs.Submitters.{AnswersOne, FindsFull, RequestIsAnswered, HasTurned, RequestIsHanded, OnlyLooks, published_leader}

module _ (n : ℕ) (alone : Type 0) (seen new : LiveTrace) where
  pub finds_turn : Finds n alone seen new → OnlyLooks n seen new
  finds_turn f = inl f.own

  pub looks_turn : (root : GroupIs) (P : Group → Type 0) → Looks root n alone seen P new → OnlyLooks n seen new
  looks_turn root P look = inr (None, look.adds.own)

  -- the host is answered, or there is no room for it
  pub look_answers : (root : GroupIs) (moves term slot : ℕ) (request : Request) (a b : Served) → Looks root n alone seen (λ g. true ≡ is_acked g term slot) new → (answered : Bool) → (answered ≡ true → AnswersOne a request b) → (answered ≡ false → FindsFull a b) → RequestIsAnswered root n alone seen moves (Placed term slot request) a b (Ok answered) new
  look_answers root moves term slot request a b look true put full = (look, put refl)
  look_answers root moves term slot request a b look false put full = let none = full refl in (none.0, inr (inr none))

  -- the request was handed to the server that the pass names, or there was no memory for it
  module _ (pass : LeaderPass) (server : ℕ) (request : Request) (named : published_leader pass ≡ server) where
    pub handed_leader : (told : Option Answer) → RequestIsHanded n alone seen server request told new → RequestIsHanded n alone seen (published_leader pass) request told new
    handed_leader told handed = subst (λ i. RequestIsHanded n alone seen i request told new) (sym named) handed

    turn_of : (told : Option Answer) → RequestIsHanded n alone seen (published_leader pass) request told new → HasTurned n pass seen new
    turn_of (Some answer) adds = inr (request, answer, adds.own)
    turn_of None kept = inl (inl (ap (entries_of n) kept.1))

    pub handed_turn : (r : Result (Option Answer) NoMemory) → IfOk r (λ told. RequestIsHanded n alone seen server request told new) → OnErr r (Finds n alone seen new) → HasTurned n pass seen new
    handed_turn (Ok told) handed none = turn_of told (handed_leader told handed)
    handed_turn (Err e) handed none = inl (finds_turn none)
