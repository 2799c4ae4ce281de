-- What every row needs: which refusal its packets and its record give, and what has not changed.
use Rattle.std.proofs.Common.{◌≡◌, inl, inr, ℕ, ◌<◌, ◌≤◌, true, false, Some, None, nat_lt, arith, refl, ap, ◌∙◌}
use Rattle.std.proofs.lemmas.Bool.Decides.{nat_tests}
use Rattle.pf_entry.specs.Records.{Durable}
use Rattle.pf_protocol.specs.declared.answers.Refusal.TheVariants.{PacketsFull, LogFull}
use Rattle.pf_protocol.specs.Answers.{refuse}
use Rattle.pf_protocol.specs.Outcomes.{Outcome}
use Rattle.pf_server_store.specs.Stores.{StoreModel}
use Rattle.pf_server_memory.specs.declared.running.Running.{Running}
use Rattle.pf_server_memory.specs.Outgoing.{Outgoing, exceeds}
use Rattle.pf_server_memory.specs.Standing.{setup_of, state_in_memory, IsCached, Stands, IsUntouched, room_refusal}
use Rattle.pf_server_memory.proofs.Canonicals.{IsFormat}

within : (a b : ℕ) → b ≤ a → nat_lt a b ≡ false
within a b le = grind (arith, nat_tests)

past : (a b : ℕ) → a < b → nat_lt a b ≡ true
past a b lt = grind (arith, nat_tests)

module _ (out : Outgoing) (o : Outcome) where
  pub room_none : exceeds out o.packets ≡ false → o.server.durable.used ≤ 67108864 → room_refusal out o ≡ None
  unfolding room_refusal
  room_none sends fits =
      ap (λ b. refuse b PacketsFull (refuse (nat_lt 67108864 o.server.durable.used) LogFull None)) sends
      ∙ ap (λ b. refuse b LogFull None) (within _ _ fits)

  pub room_packets : exceeds out o.packets ≡ true → room_refusal out o ≡ Some PacketsFull
  unfolding room_refusal
  room_packets sends = ap (λ b. refuse b PacketsFull (refuse (nat_lt 67108864 o.server.durable.used) LogFull None)) sends

  pub room_log : exceeds out o.packets ≡ false → 67108864 < o.server.durable.used → room_refusal out o ≡ Some LogFull
  unfolding room_refusal
  room_log sends beyond =
      ap (λ b. refuse b PacketsFull (refuse (nat_lt 67108864 o.server.durable.used) LogFull None)) sends
      ∙ ap (λ b. refuse b LogFull None) (past _ _ beyond)

module _ {S : Type 0} (model : StoreModel S) where
  -- where neither the store nor memory was written
  pub untouched : (d : Durable) (store : S) (me : Running) (out new : Outgoing) → Stands model d store me → IsUntouched model d store me out store me new
  untouched d store me out new stands = record { store_same = refl; server_same = refl; setup_same = refl; stands = stands }

-- the volume's format or the second
pub half_of : {S : Type 0} (model : StoreModel S) (d : Durable) (store : S) (me : Running) → Stands model d store me → IsFormat (setup_of me) (model.format store)
unfolding setup_of
half_of model d store me stands = elim stands.cached.format [
  | inl second ↦ inl (stands.half ∙ second)
  | inr same ↦ inr (stands.half ∙ same)
]

-- memory has what it alone tells
pub bare_cached : (d : Durable) (me : Running) → IsCached d me → IsCached (state_in_memory me) me
bare_cached d me cached = record {
  number = cached.number;
  term = refl;
  generation = refl;
  base = refl;
  starts = refl;
  log = refl;
  format = inr refl;
  prefix = cached.prefix;
  role = cached.role;
  jobs = cached.jobs;
  places = cached.places;
  rooms = cached.rooms;
  near = cached.near;
  replies = cached.replies;
}
