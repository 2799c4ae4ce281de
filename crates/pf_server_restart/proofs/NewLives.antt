-- A new life in memory.
use Rattle.std.proofs.Common.{◌≡◌, ℕ, ◌<◌, Bool, true, false, ◌&&◌, ◌||◌, List, [], ◌∷◌, length, map, nat_lt, nat_le, nat_eq, is_some, arith, refl, sym, ap, ◌∙◌}
use Rattle.std.proofs.lemmas.Bool.Decides.{nat_tests}
use Rattle.std.specs.Ordering.{nat_cmp, eq_by_cmp}
use Rattle.std.specs.List.{list_any}
use Rattle.std.specs.FinMap
use Rattle.std.specs.FinMap.{len-empty}
use Rattle.pf_entry.specs.Maps.{Map, Numbers}
use Rattle.pf_entry.specs.Sets
use Rattle.pf_entry.proofs.Sets.{contains-items, same_set}
use Rattle.pf_entry.specs.Ops.{Sector}
use Rattle.pf_entry.specs.declared.ops.Op.{Op}
use Rattle.pf_holes.specs.SlotSets.{SlotTable, slots_upto}
use Rattle.pf_holes.proofs.SlotLists.{contains-slots_of, prefix_slots}
use Rattle.pf_holes.proofs.HoleLogs.{no_key}
use Rattle.pf_election.proofs.ConfirmedCounts.{few_confirmed}
use Rattle.pf_election.specs.declared.probes.ProbedRead.{ProbedRead as Asked}
use Rattle.pf_protocol.specs.Servers.{Follower}
use Rattle.pf_protocol.specs.Saving.{restarted}
use Rattle.pf_server_memory.specs.declared.running.Role.TheVariants.{Follower as FollowerHere}
use Rattle.pf_server_memory.specs.declared.running.Running.{Running}
use Rattle.pf_server_memory.specs.Replying.{Replying}
use Rattle.pf_server_memory.specs.Standing.{server_of, setup_of, read_in_memory}
use Rattle.pf_server_memory.proofs.AppliedSlots.{in_above}
use Rattle.pf_server_restart.specs.Beginning.{ServerHasBegun, IsSeat, setup_of_seat}
use Rattle.pf_server_restart.specs.Recovering.{state_in}
use Rattle.pf_server_restart.specs.Reviving.{IsRevived}
use Rattle.pf_server_restart.specs.declared.recovery.Recovered.{Recovered}
use Rattle.pf_server_restart.specs.declared.seat.Seat.{Seat}

-- the slots above a checkpoint, among those up to it
turned : (q k : ℕ) → eq_by_cmp nat_cmp q k ≡ nat_eq k q
turned q k = grind (arith, nat_tests)

any_turned : (q : ℕ) (ns : List ℕ) → list_any (eq_by_cmp nat_cmp q) ns ≡ list_any (λ s. nat_eq s q) ns
any_turned q [] = refl
any_turned q (n ∷ ns) = λ i. turned q n i || any_turned q ns i

cut : (base q : ℕ) (b : Bool) → (b ≡ true → base < q) → (((nat_lt 0 q && nat_le q base) || b) && nat_lt base q) ≡ b
cut base q true high = let h = high refl in grind (arith, nat_tests)
cut base q false high = grind (arith, nat_tests)

applied_back : (base : ℕ) (applied slots : Numbers) → ((slot : ℕ) → Sets.contains applied slot ≡ true → base < slot) → slots ≡ slots_upto base (Sets.items applied) → Sets.retain slots (nat_lt base) ≡ applied
applied_back base applied slots high is = ap (λ s. Sets.retain s (nat_lt base)) is ∙ same_set _ _ (λ q.
    in_above (slots_upto base (Sets.items applied)) base q
    ∙ ap (λ b. b && nat_lt base q) (contains-slots_of base (Sets.items applied) q)
    ∙ ap (λ b. ((nat_lt 0 q && nat_le q base) || b) && nat_lt base q) (sym (any_turned q (Sets.items applied)) ∙ sym (contains-items applied q))
    ∙ cut base q (Sets.contains applied q) (high q))

module _ (seat : Seat) (life : ℕ) (made : IsSeat seat) (r : Recovered) (begun : ServerHasBegun (setup_of_seat seat) (state_in r)) (unmarked : r.log.committed ≡ Sets.empty)
    (applied : SlotTable) (sectors : List Sector) (in_hand : Map Op) (rooms : Map ℕ) (reads : List Asked) (replies : Replying) (snapshots : Map (List Sector)) where
  abbrev me : Running
  me = record {
    number = seat.number;
    life = life;
    names = seat.names;
    format = seat.format;
    term = r.term;
    generation = r.generation;
    starts = r.starts;
    log = r.log;
    role = FollowerHere;
    applied = applied;
    sectors = sectors;
    in_hand = in_hand;
    jobs = 0;
    rooms = rooms;
    reads = reads;
    replies = replies;
    snapshots = snapshots;
  }

  pub revived : applied.slots ≡ slots_upto r.log.base (Sets.items r.applied) → sectors ≡ r.sectors → in_hand ≡ FinMap.empty → rooms ≡ FinMap.empty → reads ≡ [] → replies ≡ record { rooms = 0; answers = [] } → snapshots ≡ FinMap.empty
      → IsRevived (state_in r) me seat life
  unfolding server_of setup_of restarted
  revived slots_are sectors_are none_held no_rooms no_reads no_replies no_snapshots =
      let back = applied_back r.log.base r.applied applied.slots (λ slot has. (begun.fits.saved slot has).0) slots_are in
      record {
        cached = record {
          number = made.number;
          term = refl;
          generation = refl;
          base = refl;
          starts = refl;
          log = refl;
          format = begun.half.format;
          prefix = λ slot some low. ap (λ s. Sets.contains s slot) slots_are ∙ prefix_slots r.log.base (Sets.items r.applied) slot some low;
          role = tt;
          jobs = sym (ap FinMap.len none_held ∙ len-empty nat_cmp Op);
          places = omega arith;
          rooms = λ slot held. absurd (no_key in_hand slot none_held (ap is_some held));
          near = λ slot has. absurd (no_key rooms slot no_rooms has);
          replies = omega (arith, few_confirmed reads, ap length no_reads);
        };
        is = λ i. record {
          number = seat.number;
          life = life;
          durable = state_in r;
          role = Follower;
          committed = unmarked i;
          applied = back i;
          sectors = sectors_are i;
          in_hand = none_held i;
          reads = map read_in_memory (no_reads i);
          snapshots = no_snapshots i;
        };
        setup = λ i. record { names = seat.names; window = 4096; chunk = (ap length sectors_are ∙ begun.fits.sectors.0) i; format = seat.format; failed = [] };
        begun = begun;
      }
