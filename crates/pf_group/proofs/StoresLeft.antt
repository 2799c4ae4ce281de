-- What the stores of a group leave.
use Rattle.std.proofs.Common.{◌≡◌, ℕ, ◌⊎◌, inl, inr, Bool, true, false, cond, List, [], ◌∷◌, ◌++◌, length, Option, Some, IfSome, IsTrue, slice_get, arith, refl, sym, ap, subst, ◌∙◌}
use Rattle.std.proofs.lemmas.List.{length-append}
use Rattle.pf_disk.specs.Crashes.{Images}
use Rattle.pf_entry.specs.Records.{Durable}
use Rattle.pf_disk_store.specs.Kept.{FindsState, LeavesStates}
use Rattle.pf_protocol.specs.Servers.{Condition, Running as RunningIs, Stopped as StoppedIs, Unformatted as UnformattedIs}
use Rattle.pf_protocol.specs.Histories.{replay}
use Rattle.pf_disk_store.specs.declared.kept.Kept.{Kept}
use Rattle.pf_server_store.specs.Stores.{StoreModel}
use Rattle.pf_server_format.specs.Opening.{head_of}
use Rattle.pf_group_network.specs.pf_server.specs.declared.server.Server.{Server}
use Rattle.pf_server_restart.specs.declared.seat.Seat.{Seat}
use Rattle.pf_group_network.specs.pf_server.specs.Conditions.{HasOne, Leaves, Meets}
use Rattle.pf_group_network.specs.pf_server.specs.declared.state.Doubt.{Doubt}
use Rattle.pf_group_network.specs.pf_server.specs.declared.state.Doubt.TheVariants.{Settled, Open, Read}
use Rattle.pf_group_network.specs.pf_server.specs.declared.state.State.{State}
use Rattle.pf_group_network.specs.pf_server.specs.declared.state.State.TheVariants.{Runs, Stopped, Unformatted}
use Rattle.pf_group_network.specs.pf_server.specs.Turns.{IsSavedOf}
use Rattle.pf_group_network.specs.pf_server.proofs.RestartOutcomes.{IsOfEither, of_either, one_of}
use Rattle.pf_disk_store.specs.Model.{kept_model}
use Rattle.pf_group.specs.declared.group.Group.TheInside.{Inside}
use Rattle.pf_group.specs.Halves.{told_in}
use Rattle.pf_group.specs.Inside.{IsGroup, group_in, setup_in}
use Rattle.pf_group.specs.Leaving.{HasLeft, LeavesIn, LeavesOf, as_seen}
use Rattle.pf_group.proofs.NetworkStands.{now_shows}
use Rattle.pf_group.proofs.Since.{Law, tell_all}

module _ {S : Type 0} (model : StoreModel S) (seat : Seat) (store : S) (head : List ℕ) (zero one : Images) (gives : (x y : Durable) → model.holds store x y → LeavesStates head zero one x y) where
  of_one : (d before after x : Durable) → (d ≡ before) ⊎ (d ≡ after) → IsSavedOf d x → IsOfEither before after x
  of_one d before after x is = one_of (λ z. IsSavedOf z x → IsOfEither before after x) before after d is inl inr

  left_one : (d before after : Durable) → (d ≡ before) ⊎ (d ≡ after) → HasOne model d store → HasLeft head zero one before after
  left_one d before after is h = record { x = h.x; y = h.y; left = gives h.x h.y h.has; first = of_one d before after h.x is h.first; second = of_one d before after h.y is h.second }

  by_found : (found : Bool) (before after : Durable) → (cond found after before ≡ before) ⊎ (cond found after before ≡ after)
  by_found true before after = inr refl
  by_found false before after = inl refl

  by_doubt : (doubt : Doubt) (before after : Durable) → Leaves model doubt before after store → HasLeft head zero one before after
  by_doubt Settled before after is = left_one before before after (inl refl) is.1
  by_doubt (Open bytes generation) before after is = record { x = is.x; y = is.y; left = gives is.x is.y is.has; first = of_either before after is.x is.first; second = of_either before after is.y is.second }
  by_doubt (Read found) before after is = left_one (cond found after before) before after (by_found found before after) is

  -- what meets a condition leaves its states
  pub leaves_of : (state : State) (c : Condition) → Meets model seat store state c → LeavesOf head (Some c) zero one
  leaves_of (Runs me) (RunningIs s) is = record { x = s.durable; y = s.durable; left = gives s.durable s.durable is.stands.recorded; first = inl (inl refl); second = inl (inl refl) }
  leaves_of (Stopped life doubt) (StoppedIs there before after) is = by_doubt doubt before after is.left
  leaves_of Unformatted UnformattedIs is = tt
  leaves_of (Runs me) (StoppedIs there before after) is = absurd is
  leaves_of (Runs me) UnformattedIs is = absurd is
  leaves_of (Stopped life doubt) (RunningIs s) is = absurd is
  leaves_of (Stopped life doubt) UnformattedIs is = absurd is
  leaves_of Unformatted (RunningIs s) is = absurd is
  leaves_of Unformatted (StoppedIs there before after) is = absurd is

-- in the files as they are
pub left_as_seen : (head : List ℕ) (zero one : Option (List ℕ)) (x y : Durable) → IfSome zero (λ a. IfSome one (λ b. FindsState head a b x ⊎ FindsState head a b y)) → LeavesStates head (as_seen zero) (as_seen one) x y
left_as_seen head zero one x y finds a b is_a is_b =
    subst (λ o. IfSome o (λ b. FindsState head a b x ⊎ FindsState head a b y)) is_b
    (subst (λ o. IfSome o (λ a. IfSome one (λ b. FindsState head a b x ⊎ FindsState head a b y))) is_a finds)

-- three servers that were taken out from the last on
pub three_of : {X : Type 0} → (xs rest : List X) (a b c : X) {ys zs : List X} → xs ≡ ys ++ c ∷ [] → ys ≡ zs ++ b ∷ [] → zs ≡ rest ++ a ∷ [] → length xs ≡ 3 → xs ≡ a ∷ b ∷ c ∷ []
three_of xs rest a b c {ys} {zs} last middle first three =
    let whole : xs ≡ ((rest ++ a ∷ []) ++ b ∷ []) ++ c ∷ [] = last ∙ ap (λ l. l ++ c ∷ []) (middle ∙ ap (λ l. l ++ b ∷ []) first) in
    whole ∙ ap (λ l. ((l ++ a ∷ []) ++ b ∷ []) ++ c ∷ []) (none_left rest (omega (arith, sym three ∙ ap length whole, length-append ((rest ++ a ∷ []) ++ b ∷ []) (c ∷ []), length-append (rest ++ a ∷ []) (b ∷ []), length-append rest (a ∷ []))))
  where
    none_left : {Y : Type 0} → (ys : List Y) → length ys ≡ 0 → ys ≡ []
    none_left [] is = refl
    none_left (y ∷ ys) is = absurd (omega arith)

-- a server of a group leaves what its condition says, for a restart that looks for its own head
pub group_leaves : {D : Type 0} → (seen : D → Option (List ℕ)) (may_leave : D → Images) (faults moment : D → ℕ) (left_since : D → ℕ → Images) (tells tells_moments : Bool) (g : Inside D) → IsGroup seen may_leave faults moment left_since tells tells_moments g → Law seen may_leave faults moment left_since tells tells_moments → IsTrue tells → (i : ℕ) (server : Server (Kept D)) → slice_get g.network.servers.items i ≡ Some server → (zero one : Images)
    → ((c : Condition) → Meets (kept_model seen may_leave faults moment left_since tells_moments) server.seat server.store server.state c → IsTrue (told_in seen server.store) → LeavesOf server.store.pair.head (Some c) zero one) → LeavesIn (group_in tells faults moment g) i zero one
group_leaves seen may_leave faults moment left_since tells tells_moments g is law tell i server there zero one leaves =
    let shows = now_shows (kept_model seen may_leave faults moment left_since tells_moments) tells (setup_in g) g.past.happenings g.network is.stands tell in
    let m = shows.members i server there in
    subst (λ head. LeavesOf head (slice_get (replay (setup_in g) g.past.happenings).servers i) zero one) (is.heads tell i server there ∙ ap (head_of g.number) m.2.seat)
    (subst (λ c. LeavesOf server.store.pair.head c zero one) (sym m.1) (leaves m.0 m.2.meets (tell_all seen may_leave faults moment left_since tells tells_moments law tell g.network i server there)))
