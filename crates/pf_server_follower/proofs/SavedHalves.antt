-- A half that is saved, and the life over it.
use Rattle.std.proofs.Common.{◌≡◌, inl, ℕ, suc, ◌+◌, List, [], ◌∷◌, nat_lt, is_some, arith, refl, sym, ap, subst, ◌∙◌}
use Rattle.std.proofs.lemmas.Bool.{false≢true}
use Rattle.std.proofs.lemmas.Option.{none-some}
use Rattle.std.specs.Ordering.{nat_cmp}
use Rattle.std.specs.FinMap
use Rattle.std.specs.FinMap.{get-empty, len-empty}
use Rattle.pf_entry.specs.Maps.{Numbers}
use Rattle.pf_entry.specs.Sets
use Rattle.pf_entry.specs.Ops.{Sector}
use Rattle.pf_entry.specs.declared.ops.Op.{Op}
use Rattle.pf_entry.specs.declared.ops.Op.TheVariants.{Mark}
use Rattle.pf_entry.specs.declared.packets.Body.TheVariants.{Ack}
use Rattle.pf_entry.specs.declared.records.Record.TheVariants.{Image as ImageRecord}
use Rattle.pf_entry.specs.Sizes.{body_size, empty_half}
use Rattle.pf_entry.specs.Records.{Durable, above, image_of, stored}
use Rattle.pf_server_store.specs.Stores.{IsImageOf}
use Rattle.pf_holes.specs.SlotSets.{IsUpto}
use Rattle.pf_election.proofs.ConfirmedCounts.{few_confirmed}
use Rattle.pf_protocol.specs.Servers.{Server, upto}
use Rattle.pf_protocol.specs.Outcomes.{sends, to_one}
use Rattle.pf_protocol.specs.Following.{ack, installed}
use Rattle.pf_server_memory.specs.declared.running.Running.{Running}
use Rattle.pf_server_memory.specs.declared.running.Role.TheVariants.{Follower as FollowerHere}
use Rattle.pf_server_memory.specs.Packets.{packet}
use Rattle.pf_server_memory.specs.Standing.{server_of, setup_of, IsCached}
use Rattle.pf_server_memory.proofs.AppliedSlots.{climbs_here}
use Rattle.pf_server_follower.specs.declared.images.NewHalf.{NewHalf}
use Rattle.pf_server_memory.specs.Images.{imaged}
use Rattle.pf_server_follower.specs.Halves.{IsNewHalf}
use Rattle.pf_server_memory.proofs.StepEnds.{IsFollowed, IsSaved}

-- what is installed of a half
abbrev pub applied_in : NewHalf → (base : ℕ) → Numbers
applied_in half base = Sets.retain half.applied.slots (nat_lt base)

abbrev pub taken : Durable → Running → (term base : ℕ) → NewHalf → Server
taken d me term base half = installed (server_of d me) term base (applied_in half base) half.sectors

-- memory over it
abbrev pub begun : Running → (term base : ℕ) → NewHalf → Running
begun me term base half = record me {
  life = me.life + 1;
  term = term;
  generation = me.generation + 1;
  role = FollowerHere;
  reads = [];
  log = record { base = base; entries = FinMap.retain_keys me.log.entries (nat_lt base); committed = Sets.retain me.log.committed (nat_lt base) };
  applied = half.applied;
  sectors = half.sectors;
  in_hand = half.in_hand;
  rooms = half.rooms;
  jobs = 0;
  snapshots = FinMap.empty;
}

module _ (d : Durable) (me : Running) (term base : ℕ) (half : NewHalf) (cached : IsCached d me) (is : IsNewHalf me term base half) where
  abbrev pub record_of : Durable
  record_of = imaged me term base (applied_in half base) half.sectors

  pub is_image_of : (body : List ℕ) → body ≡ half.body.items → IsImageOf d (image_of record_of) body
  is_image_of body same = record { canonical = is.canonical; fits = is.fits; next = ap suc cached.generation; is = same ∙ is.body }

  image_same : image_of record_of ≡ ImageRecord (suc d.generation) term (record { base = base; starts = d.starts; log = above base d.log }) (applied_in half base) half.sectors
  image_same = λ i. ImageRecord (suc (cached.generation i)) term (record { base = base; starts = cached.starts i; log = above base (cached.log i) }) (applied_in half base) half.sectors

  pub taken_saved : IsSaved d (image_of record_of) (taken d me term base half).durable
  unfolding installed server_of stored
  taken_saved = record { is = ap (stored d) (sym image_same); used = ap (λ r. empty_half + body_size r) (sym image_same); format = refl }

  next_life : me.life + 1 ≡ suc me.life
  next_life = omega arith

  next_generation : me.generation + 1 ≡ suc me.generation
  next_generation = omega arith

  begun_here : IsFollowed me (begun me term base half) (taken d me term base half)
  unfolding installed server_of setup_of stored above
  begun_here = record {
    server_is = λ i. record {
      number = me.number;
      life = next_life i;
      durable = (taken d me term base half).durable;
      role = (taken d me term base half).role;
      committed = Sets.retain me.log.committed (nat_lt base);
      applied = applied_in half base;
      sectors = half.sectors;
      in_hand = is.in_hand i;
      reads = [];
      snapshots = FinMap.empty;
    };
    setup_same = λ i. record { names = me.names; window = 4096; chunk = is.size i; format = me.format; failed = [] };
    cached = record {
      number = cached.number;
      term = refl;
      generation = next_generation ∙ ap suc cached.generation;
      base = refl;
      starts = cached.starts;
      log = ap (λ m. FinMap.retain_keys m (nat_lt base)) cached.log;
      format = inl refl;
      prefix = is.prefix;
      role = tt;
      jobs = sym (ap FinMap.len is.in_hand ∙ len-empty nat_cmp Op);
      places = omega arith;
      rooms = λ slot at. absurd (none-some Mark (sym (ap (λ m. FinMap.get m slot) is.in_hand ∙ get-empty nat_cmp slot) ∙ at));
      near = λ slot at. absurd (false≢true (sym (ap (λ m. FinMap.contains_key m slot) is.rooms ∙ ap is_some (get-empty nat_cmp slot)) ∙ at));
      replies = omega (arith, few_confirmed []);
    };
  }

  pub begun_followed : (me' : Running) → me' ≡ begun me term base half → IsFollowed me me' (taken d me term base half)
  begun_followed me' same = subst (λ m. IsFollowed me m (taken d me term base half)) (sym same) begun_here

  pub upto_is : (u to slot : ℕ) → IsUpto half.applied.slots u → packet me.number to term (Ack slot u) ≡ to_one (taken d me term base half) to (Ack slot (upto (taken d me term base half)))
  unfolding installed server_of stored upto
  upto_is u to slot reaches = λ i. packet me.number to term (Ack slot (sym (climbs_here half.applied.slots base u is.prefix reaches.reached reaches.ended) i))

-- the packet tells what the image has
pub install_is : (d : Durable) (me : Running) (from term base : ℕ) (half : NewHalf) → IsCached d me → IsNewHalf me term base half → (applied : Numbers) (sectors : List Sector) (u : ℕ) → applied_in half base ≡ applied → half.sectors ≡ sectors → IsUpto half.applied.slots u
    → sends (taken d me term base half) (packet me.number from term (Ack base u) ∷ []) ≡ ack (installed (server_of d me) term base applied sectors) from base
install_is d me from term base half cached is applied sectors u back same reaches =
    ap (λ p. sends (taken d me term base half) (p ∷ [])) (upto_is d me term base half cached is u from base reaches)
    ∙ (λ i. ack (installed (server_of d me) term base (back i) (same i)) from base)
