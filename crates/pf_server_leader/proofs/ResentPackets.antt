-- Packets that are sent one after another.
use Rattle.std.proofs.Common.{◌≡◌, ℕ, zero, suc, ◌+◌, ◌-◌, ◌<◌, ◌≤◌, true, false, not, cond, List, [], ◌∷◌, ◌++◌, Some, None, map, append_assoc, append-nil, nat_lt, arith, refl, sym, ap, ◌∙◌, if◌then◌else◌, get_or, take, drop, length}
use Rattle.std.specs.List.{filter, flat_map, range_with_len}
use Rattle.std.specs.FinMap
use Rattle.pf_entry.specs.declared.packets.Packet.{Packet}
use Rattle.std.proofs.lemmas.Bool.{cond-true, cond-false}
use Rattle.std.proofs.lemmas.List.{map-append, take-append-drop}
use Rattle.std.proofs.lemmas.List.Elements.{filter-append}
use Rattle.std.proofs.Math.Seq.{take-suc}
use Rattle.pf_entry.specs.Sets
use Rattle.std.proofs.lemmas.Bool.Decides.{nat_tests}
use Rattle.pf_entry.specs.declared.entries.Entry.{Entry}
use Rattle.pf_server_tables.specs.AckTables.{table_has_acked}
use Rattle.pf_entry.specs.declared.packets.Body.TheVariants.{Probe, Image, Accept, Commit}
use Rattle.pf_election.specs.declared.probes.ProbedRead.{ProbedRead as Asked}
use Rattle.pf_protocol.specs.Leading.{knows, resent, resent_entry}
use Rattle.pf_entry.proofs.Cases.{by_test}
use Rattle.pf_server_memory.specs.declared.running.Leader.{Leader as LeaderHere}
use Rattle.pf_server_memory.specs.declared.running.Running.{Running}
use Rattle.pf_server_memory.specs.Packets.{packet}
use Rattle.pf_server_memory.specs.Standing.{server_of, state_in_memory, leader_in_memory, read_in_memory}
use Rattle.pf_server_leader.specs.Resending.{slot_packets, probes}

flat_append : (f : ℕ → List Packet) (xs ys : List ℕ) → flat_map f (xs ++ ys) ≡ flat_map f xs ++ flat_map f ys
flat_append f [] ys = refl
flat_append f (x ∷ xs) ys = ap (λ l. f x ++ l) (flat_append f xs ys) ∙ sym (append_assoc (f x) (flat_map f xs) (flat_map f ys))

range_split : (m n a : ℕ) → range_with_len a (m + n) ≡ range_with_len a m ++ range_with_len (a + m) n
range_split zero n a = let e : zero + n ≡ n = omega arith in let f : a ≡ a + zero = omega arith in ap (range_with_len a) e ∙ ap (λ b. range_with_len b n) f
range_split (suc m) n a =
    let e : suc m + n ≡ suc (m + n) = omega arith in
    let f : (a + 1) + m ≡ a + suc m = omega arith in
    ap (range_with_len a) e ∙ ap (λ xs. a ∷ xs) (range_split m n (a + 1) ∙ ap (λ b. range_with_len (a + 1) m ++ range_with_len b n) f)

module _ (f : ℕ → List Packet) (base : ℕ) where
  -- those of the slots above the base up to this one
  abbrev pub up_to : ℕ → List Packet
  up_to slot = flat_map f (range_with_len (suc base) (slot - base))

  pub up_to_none : up_to base ≡ []
  up_to_none = let e : base - base ≡ 0 = omega arith in ap (λ n. flat_map f (range_with_len (suc base) n)) e

  pub up_to_more : (slot : ℕ) → base ≤ slot → up_to (slot + 1) ≡ up_to slot ++ f (slot + 1)
  up_to_more slot low =
      let e : slot + 1 - base ≡ (slot - base) + 1 = omega arith in
      let g : suc base + (slot - base) ≡ slot + 1 = omega arith in
      ap (λ n. flat_map f (range_with_len (suc base) n)) e
      ∙ ap (flat_map f) (range_split (slot - base) 1 (suc base))
      ∙ flat_append f (range_with_len (suc base) (slot - base)) (range_with_len (suc base + (slot - base)) 1)
      ∙ ap (λ l. up_to slot ++ l) (append-nil (f (suc base + (slot - base))) ∙ ap f g)

  pub up_to_all : (slot next : ℕ) → base ≤ slot → slot + 1 < next → flat_map f (range_with_len (suc base) (next - suc base)) ≡ up_to (slot + 1) ++ flat_map f (range_with_len (suc base + (slot + 1 - base)) (next - 1 - (slot + 1)))
  up_to_all slot next low high =
      let e : next - suc base ≡ (slot + 1 - base) + (next - 1 - (slot + 1)) = omega arith in
      ap (λ n. flat_map f (range_with_len (suc base) n)) e
      ∙ ap (flat_map f) (range_split (slot + 1 - base) (next - 1 - (slot + 1)) (suc base))
      ∙ flat_append f (range_with_len (suc base) (slot + 1 - base)) (range_with_len (suc base + (slot + 1 - base)) (next - 1 - (slot + 1)))

  pub up_to_end : (slot next : ℕ) → base < next → slot ≤ next - 1 → next - 1 ≤ slot → flat_map f (range_with_len (suc base) (next - suc base)) ≡ up_to slot
  up_to_end slot next above high low = let e : next - suc base ≡ slot - base = omega (arith, above, high, low) in ap (λ n. flat_map f (range_with_len (suc base) n)) e

-- reads
module _ (me : Running) (to : ℕ) where
  pub probes_same : (reads : List Asked) → map (λ r. packet me.number to me.term (Probe r.number)) (filter (λ r. not r.confirmed) (map read_in_memory reads)) ≡ probes me to reads
  probes_same [] = refl
  probes_same (r ∷ rs) =
      by_test (not r.confirmed) (λ c. map (λ x. packet me.number to me.term (Probe x.number)) (cond c (read_in_memory r ∷ filter (λ x. not x.confirmed) (map read_in_memory rs)) (filter (λ x. not x.confirmed) (map read_in_memory rs)))
      ≡ map (λ x. packet me.number to me.term (Probe x.number)) (cond c (r ∷ filter (λ x. not x.confirmed) rs) (filter (λ x. not x.confirmed) rs)))
      (λ _. ap (λ ps. packet me.number to me.term (Probe r.number) ∷ ps) (probes_same rs)) (λ _. probes_same rs)

  one_probe : (r : Asked) → probes me to (r ∷ []) ≡ cond (not r.confirmed) (packet me.number to me.term (Probe r.number) ∷ []) []
  one_probe r = by_test (not r.confirmed) (λ c. map (λ x. packet me.number to me.term (Probe x.number)) (cond c (r ∷ []) []) ≡ cond c (packet me.number to me.term (Probe r.number) ∷ []) []) (λ _. refl) (λ _. refl)

  pub probes_append : (xs ys : List Asked) → probes me to (xs ++ ys) ≡ probes me to xs ++ probes me to ys
  probes_append xs ys = ap (map (λ r. packet me.number to me.term (Probe r.number))) (filter-append (λ r. not r.confirmed) xs ys) ∙ map-append (λ r. packet me.number to me.term (Probe r.number)) _ _

  module _ (reads : List Asked) (i : ℕ) (r : Asked) (at : r ≡ get_or reads i r) (in_it : i < length reads) where
    taken : take (i + 1) reads ≡ take i reads ++ r ∷ []
    taken = let e : i + 1 ≡ suc i = omega arith in ap (λ n. take n reads) e ∙ take-suc reads i r in_it ∙ ap (λ x. take i reads ++ x ∷ []) (sym at)

    pub probes_more : r.confirmed ≡ false → probes me to (take (i + 1) reads) ≡ probes me to (take i reads) ++ packet me.number to me.term (Probe r.number) ∷ []
    probes_more unheard = ap (probes me to) taken ∙ probes_append (take i reads) (r ∷ []) ∙ ap (λ ps. probes me to (take i reads) ++ ps) (one_probe r ∙ cond-true _ _ _ (ap not unheard))

    pub probes_same_far : r.confirmed ≡ true → probes me to (take (i + 1) reads) ≡ probes me to (take i reads)
    probes_same_far done = ap (probes me to) taken ∙ probes_append (take i reads) (r ∷ []) ∙ ap (λ ps. probes me to (take i reads) ++ ps) (one_probe r ∙ cond-false _ _ _ (ap not done)) ∙ append-nil _

    pub probes_all : probes me to reads ≡ probes me to (take (i + 1) reads) ++ probes me to (drop (i + 1) reads)
    probes_all = ap (probes me to) (sym (take-append-drop (i + 1) reads)) ∙ probes_append (take (i + 1) reads) (drop (i + 1) reads)

-- all that one server gets
abbrev pub image_packets : Running → LeaderHere → ℕ → List Packet
image_packets me l to = if nat_lt (knows (leader_in_memory l) to) me.log.base then packet me.number to me.term (Image me.log.base (Sets.retain me.applied.slots (nat_lt me.log.base)) me.sectors) ∷ [] else []

abbrev pub all_slots : Running → LeaderHere → ℕ → List Packet
all_slots me l to = flat_map (slot_packets me l to) (range_with_len (suc me.log.base) (l.next - suc me.log.base))

pub resent_is : (me : Running) (l : LeaderHere) (to : ℕ) → (image_packets me l to ++ all_slots me l to) ++ probes me to me.reads ≡ resent (server_of (state_in_memory me) me) (leader_in_memory l) to
unfolding resent server_of
resent_is me l to = ap (λ ps. (image_packets me l to ++ all_slots me l to) ++ ps) (sym (probes_same me to me.reads))

pub take_whole : {X : Type 0} (n : ℕ) (xs : List X) → length xs ≤ n → take n xs ≡ xs
take_whole zero [] low = refl
take_whole zero (x ∷ xs) low = absurd (omega (arith, low))
take_whole (suc n) [] low = refl
take_whole (suc n) (x ∷ xs) low = ap (λ ys. x ∷ ys) (take_whole n xs (omega (arith, low)))

not_below : (a b : ℕ) → b ≤ a → nat_lt a b ≡ false
not_below a b le = grind (arith, nat_tests)

is_below : (a b : ℕ) → a < b → nat_lt a b ≡ true
is_below a b lt = grind (arith, nat_tests)

-- one entry
module _ (me : Running) (l : LeaderHere) (to : ℕ) (e : Entry) where
  pub entry_unacked : table_has_acked l.acks.acks to e.slot ≡ false → packet me.number to me.term (Accept e) ∷ [] ≡ resent_entry (server_of (state_in_memory me) me) (leader_in_memory l) to (Some e) e.slot
  unfolding server_of
  entry_unacked none = sym (cond-true _ _ _ (ap not none))

  pub entry_unknown : table_has_acked l.acks.acks to e.slot ≡ true → knows (leader_in_memory l) to < e.slot → packet me.number to me.term (Commit e.slot) ∷ [] ≡ resent_entry (server_of (state_in_memory me) me) (leader_in_memory l) to (Some e) e.slot
  unfolding server_of
  entry_unknown has low = sym (cond-false _ _ _ (ap not has) ∙ cond-true _ _ _ (is_below _ _ low))

  pub entry_known : table_has_acked l.acks.acks to e.slot ≡ true → e.slot ≤ knows (leader_in_memory l) to → [] ≡ resent_entry (server_of (state_in_memory me) me) (leader_in_memory l) to (Some e) e.slot
  unfolding server_of
  entry_known has high = sym (cond-false _ _ _ (ap not has) ∙ cond-false _ _ _ (not_below _ _ high))

pub slot_empty : (me : Running) (l : LeaderHere) (to slot : ℕ) → FinMap.get me.log.entries slot ≡ None → [] ≡ slot_packets me l to slot
slot_empty me l to slot none = sym (ap (λ o. resent_entry (server_of (state_in_memory me) me) (leader_in_memory l) to o slot) none)

pub slot_full : (me : Running) (l : LeaderHere) (to slot : ℕ) (e : Entry) → FinMap.get me.log.entries slot ≡ Some e → e.slot ≡ slot → resent_entry (server_of (state_in_memory me) me) (leader_in_memory l) to (Some e) e.slot ≡ slot_packets me l to slot
slot_full me l to slot e at own = (λ i. resent_entry (server_of (state_in_memory me) me) (leader_in_memory l) to (sym at i) (own i))
