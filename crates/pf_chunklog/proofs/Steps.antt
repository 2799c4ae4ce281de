-- The four calls of an append, one after another.
use Rattle.std.proofs.Common.{◌≡◌, inl, ℕ, ◌+◌, ◌-◌, min, Option, Some, None, IfSome, Result, Ok, Err, IfOk, List, [], ◌∷◌, ◌++◌, length, sym, subst, ap, ◌∙◌, refl, ◌≤◌, arith, length-append}
use Rattle.std.specs.Int.{w32, to_be_bytes}
use Rattle.std.specs.Option.{is_some}
use Rattle.std.specs.Result.{IsErrOf}
use Rattle.std.proofs.lemmas.Bool.{false≢true}
use Rattle.pf_disk.specs.Crashes.{Torn, ImagesFollow, Only, Images}
use Rattle.pf_disk.specs.Files.{overwritten}
use Rattle.pf_chunklog.specs.Records.{Raw, HalfHolds, RecordIsSized, record_spelled, body_of, blocks}
use Rattle.pf_chunklog.specs.Logs.{BeforeOrAfter, LogIsAtRest}
use Rattle.pf_chunklog.proofs.Crash as crash

-- what is said of an option where it holds something
pub told : {X : Type 0} (o : Option X) (x : X) (P : X → Type 0) → o ≡ Some x → IfSome o P → P x
told {X = X} o x P is here = subst (λ (v : Option X). IfSome v P) is here

pub if_some : {X : Type 0} (o : Option X) (P : X → Type 0) → ((x : X) → o ≡ Some x → P x) → IfSome o P
if_some None P here = tt
if_some (Some x) P here = here x refl

-- a disk that tells its content has told it before
pub was_told : {X : Type 0} (old new : Option X) (y : X) → is_some new ≡ is_some old → new ≡ Some y → (x : X) × (old ≡ Some x)
was_told (Some x) new y same is = (x, refl)
was_told {X = X} None new y same is = absurd (false≢true (sym same ∙ ap (λ (o : Option X). is_some o) is))

pub if_ok : {T E : Type 0} (r : Result T E) (P : T → Type 0) → ((x : T) → r ≡ Ok x → P x) → IfOk r P
if_ok (Ok x) P here = here x refl
if_ok (Err e) P here = tt

-- an error of one result is that of another
pub other_err : {T U E : Type 0} (a b : E) → IsErrOf {T = T} {E = E} (Err a) b → IsErrOf {T = U} {E = E} (Err a) b
other_err {T = T} {U = U} {E = E} a b is =
    let same : a ≡ b = cc is in
    let make : E → Result U E = λ e. Err e in
    ap make same

-- a body that fits a half
pub is_sized : (raw : Raw) (body : List ℕ) (used : ℕ) → body ≡ body_of raw → used + length body ≤ 67108864 → RecordIsSized raw
is_sized raw body used is fits = omega (arith, fits, ap length is, length-append (record_spelled raw) (0 ∷ []), length-append (to_be_bytes w32 (length raw.1)) raw.1)

module _ (head : List ℕ) (records : List Raw) (raw : Raw) (file : List ℕ) (used : ℕ) (old : Images) (raw_sized : RecordIsSized raw) (rest : LogIsAtRest head used old records file) where
  -- the file with the body behind the closed gate
  abbrev pub staged : List ℕ
  staged = (head ++ blocks records) ++ rest.held.gate ∷ (record_spelled raw ++ 0 ∷ crash.after_body head records raw file used rest.held rest.size)

  pub after_write : (n : ℕ) (new : Images) → ImagesFollow (Torn (min (length file) used) n) old new → (c : List ℕ) → new c → BeforeOrAfter head records raw c
  after_write n new follows c left =
      let from = follows c left in
      inl (crash.behind head records raw file used rest.held rest.size n c (subst (λ (f : List ℕ). Torn (min (length file) used) n f c) (rest.durable from.0 from.1) from.2))

  pub after_gate : (gate : ℕ) (body : List ℕ) (mid new : Images) → gate ≡ used - 1 → body ≡ body_of raw → Only (overwritten file used body) mid
      → ImagesFollow (Torn (min (length (overwritten file used body)) gate) (gate + 1)) mid new → (c : List ℕ) → new c → BeforeOrAfter head records raw c
  after_gate gate body mid new place is only follows_gate c left =
      let follows = subst (λ (g : ℕ). ImagesFollow (Torn (min (length (overwritten file used body)) g) (g + 1)) mid new) place follows_gate in
      let from = follows c left in
      let file_is : overwritten file used body ≡ staged = ap (λ (b : List ℕ). overwritten file used b) is ∙ crash.written head records raw file used rest.held rest.size in
      crash.gate_torn head records raw file used rest.held rest.size raw_sized c
      (subst (λ (f : List ℕ). Torn (min (length f) (used - 1)) (used - 1 + 1) f c) file_is (subst (λ (f : List ℕ). Torn (min (length (overwritten file used body)) (used - 1)) (used - 1 + 1) f c) (only from.0 from.1) from.2))

  -- the log after its fourth call
  pub at_rest : (gate : ℕ) (body : List ℕ) (last : Images) → gate ≡ used - 1 → body ≡ body_of raw → Only (overwritten (overwritten file used body) gate (1 ∷ [])) last
      → LogIsAtRest head (used + length body) last (records ++ raw ∷ []) (overwritten (overwritten file used body) gate (1 ∷ []))
  at_rest gate body last place is only =
      let file_is : overwritten file used body ≡ staged = ap (λ (b : List ℕ). overwritten file used b) is ∙ crash.written head records raw file used rest.held rest.size in
      let end_is : overwritten (overwritten file used body) gate (1 ∷ []) ≡ _ = ap (λ (g : ℕ). overwritten (overwritten file used body) g (1 ∷ [])) place ∙ ap (λ (f : List ℕ). overwritten f (used - 1) (1 ∷ [])) file_is ∙ crash.gate_written head records raw file used rest.held rest.size in
      record {
        held = subst (λ (f : List ℕ). HalfHolds head (records ++ raw ∷ []) f) (sym end_is) (crash.appended head records raw file used rest.held rest.size raw_sized);
        size = ap (λ (b : List ℕ). used + length b) is ∙ crash.grows head records raw file used rest.held rest.size;
        durable = only;
      }
