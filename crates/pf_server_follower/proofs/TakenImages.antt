-- An image of what a follower takes over.
use Rattle.std.proofs.Common.{◌≡◌, ℕ, ◌<◌, ◌≤◌, Bool, true, false, ◌&&◌, ◌||◌, List, [], ◌∷◌, length, nat_lt, nat_le, nat_eq, arith, refl, sym, ap, subst, ◌∙◌}
use Rattle.std.proofs.lemmas.Bool.Decides.{nat_tests}
use Rattle.std.specs.Ordering.{nat_cmp, eq_by_cmp}
use Rattle.std.specs.List.{list_any}
use Rattle.std.specs.FinMap
use Rattle.pf_entry.specs.Maps.{Numbers}
use Rattle.pf_entry.specs.Sets
use Rattle.pf_entry.proofs.Sets.{contains-items, same_set}
use Rattle.pf_entry.specs.Ops.{Sector}
use Rattle.pf_entry.specs.declared.packets.Body.TheVariants.{Image as ImageIs}
use Rattle.pf_entry.specs.Canonical.{IsCanonicalRecord}
use Rattle.pf_entry.specs.Records.{image_of}
use Rattle.pf_codec.specs.Fitting.{RecordFits}
use Rattle.pf_codec.specs.Spelling.{body_bytes}
use Rattle.pf_holes.specs.SlotSets.{slots_upto}
use Rattle.pf_holes.proofs.SlotLists.{contains-slots_of, prefix_slots}
use Rattle.pf_server_memory.specs.declared.running.Running.{Running}
use Rattle.pf_server_memory.specs.Standing.{setup_of, IsBounded}
use Rattle.pf_server_memory.proofs.Images.{image_canonical, image_fits}
use Rattle.pf_server_memory.proofs.AppliedSlots.{in_above}
use Rattle.pf_server_memory.specs.Coming.{IsComing}
use Rattle.pf_server_follower.specs.declared.images.NewHalf.{NewHalf}
use Rattle.pf_server_memory.specs.Images.{imaged}
use Rattle.pf_server_follower.specs.Halves.{IsNewHalf}

module _ (me : Running) (bounded : IsBounded me) (base : ℕ) (reached : me.log.base ≤ base) (from term : ℕ) (applied : Numbers) (sectors : List Sector) (coming : IsComing me from term (ImageIs base applied sectors)) where
  pub coming_canonical : IsCanonicalRecord 2 (image_of (imaged me term base applied sectors))
  coming_canonical = image_canonical me bounded base reached coming.n term applied sectors coming.fits.body.1 coming.fits.body.2

  pub coming_fits : RecordFits (image_of (imaged me term base applied sectors))
  coming_fits =
      image_fits me bounded base reached coming.n term applied sectors coming.fits.body.1 coming.fits.body.2 coming.low (omega (arith, coming.fits.term_low, coming.t_low)) (omega (arith, coming.fits.body.0, coming.low))

  pub same_size : length sectors ≡ length me.sectors
  unfolding setup_of
  same_size = coming.fits.body.2.0

  pub all_above : (slot : ℕ) → Sets.contains applied slot ≡ true → base < slot
  all_above slot at = (coming.fits.body.1 slot at).0

-- the set of a checkpoint and of slots above it
turned : (q k : ℕ) → eq_by_cmp nat_cmp q k ≡ nat_eq k q
turned q k = grind (arith, nat_tests)

any_turned : (q : ℕ) (ns : List ℕ) → list_any (eq_by_cmp nat_cmp q) ns ≡ list_any (λ s. nat_eq s q) ns
any_turned q [] = refl
any_turned q (n ∷ ns) = λ i. turned q n i || any_turned q ns i

cut : (base q : ℕ) (b : Bool) → (b ≡ true → base < q) → (((nat_lt 0 q && nat_le q base) || b) && nat_lt base q) ≡ b
cut base q true high = let h = high refl in grind (arith, nat_tests)
cut base q false high = grind (arith, nat_tests)

pub applied_back : (base : ℕ) (applied slots : Numbers) → ((slot : ℕ) → Sets.contains applied slot ≡ true → base < slot) → slots ≡ slots_upto base (Sets.items applied) → Sets.retain slots (nat_lt base) ≡ applied
applied_back base applied slots high is = ap (λ s. Sets.retain s (nat_lt base)) is ∙ same_set _ _ (λ q.
    in_above (slots_upto base (Sets.items applied)) base q
    ∙ ap (λ b. b && nat_lt base q) (contains-slots_of base (Sets.items applied) q)
    ∙ ap (λ b. ((nat_lt 0 q && nat_le q base) || b) && nat_lt base q) (sym (any_turned q (Sets.items applied)) ∙ sym (contains-items applied q))
    ∙ cut base q (Sets.contains applied q) (high q))

pub prefix_here : (base : ℕ) (applied slots : Numbers) → slots ≡ slots_upto base (Sets.items applied) → (slot : ℕ) → 0 < slot → slot ≤ base → Sets.contains slots slot ≡ true
prefix_here base applied slots is slot some low = ap (λ s. Sets.contains s slot) is ∙ prefix_slots base (Sets.items applied) slot some low

pub new_half : (me : Running) (term base : ℕ) (applied : Numbers) (sectors : List Sector) (half : NewHalf) → Sets.retain half.applied.slots (nat_lt base) ≡ applied → half.sectors ≡ sectors
    → half.body.items ≡ body_bytes (image_of (imaged me term base applied sectors)) → IsCanonicalRecord 2 (image_of (imaged me term base applied sectors)) → RecordFits (image_of (imaged me term base applied sectors))
    → ((slot : ℕ) → 0 < slot → slot ≤ base → Sets.contains half.applied.slots slot ≡ true) → length sectors ≡ length me.sectors → half.in_hand ≡ FinMap.empty → half.rooms ≡ FinMap.empty
    → IsNewHalf me term base half
new_half me term base applied sectors half back same body canonical fits prefix size in_hand rooms =
    let at : image_of (imaged me term base applied sectors) ≡ image_of (imaged me term base (Sets.retain half.applied.slots (nat_lt base)) half.sectors) = λ i. image_of (imaged me term base (sym back i) (sym same i)) in
    record {
      body = body ∙ ap body_bytes at;
      canonical = subst (IsCanonicalRecord 2) at canonical;
      fits = subst RecordFits at fits;
      prefix = prefix;
      size = ap length same ∙ size;
      in_hand = in_hand;
      rooms = rooms;
    }
