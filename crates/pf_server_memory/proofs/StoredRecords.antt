-- What is told of a record that is added, and of an image that is saved.
use Rattle.std.proofs.Common.{◌≡◌, ℕ, suc, ◌+◌, ◌<◌, ◌≤◌, ◌^◌, Bool, true, false, not, ◌&&◌, cond, ◌==◌, List, length, Result, Err, arith, refl, sym, ap, subst, ◌∙◌}
use Rattle.std.proofs.lemmas.Bool.{true≢false}
use Rattle.std.proofs.lemmas.Bool.Decides.{nat_tests}
use Rattle.pf_entry.specs.Sizes.{body_size, payload_size}
use Rattle.pf_entry.specs.Canonical.{IsCanonicalRecord, IsCanonicalFor, first_format, second_format}
use Rattle.pf_entry.specs.declared.records.Record.{Record}
use Rattle.pf_entry.specs.declared.records.Record.TheVariants.{Image as ImageRecord, Term as TermRecord, Entry as EntryRecord, Merged as MergedRecord}
use Rattle.pf_entry.specs.Records.{Durable, stored}
use Rattle.pf_codec.proofs.BodyLaws.{format_more, window_of_second}
use Rattle.pf_codec.proofs.SizeLaws.{body_len}
use Rattle.pf_protocol.specs.Answers.{has_stored}
use Rattle.pf_server_store.specs.Stores.{IsImageOf, IsSpelledAs, is_image, StoreModel}
use Rattle.pf_server_memory.specs.declared.faults.StepFault.{StepFault}
use Rattle.pf_server_memory.specs.declared.faults.StepFault.TheVariants.{Halted}
use Rattle.pf_server_memory.specs.Storing.{IsInDoubt, Keeps}

-- what has a spelling in either format has one in the second
by_format : (first : Bool) (r : Record) → IsCanonicalFor (cond first first_format second_format) r → payload_size r < 2 ^ 32 → IsCanonicalRecord 2 r
by_format true r fields short = format_more r (record { fields = fields; short = short })
by_format false r fields short = record { fields = fields; short = short }

pub in_second : (format : ℕ) (r : Record) → IsCanonicalRecord format r → IsCanonicalRecord 2 r
in_second format r c = by_format (format == 1) r c.fields c.short

pub past : (used there len size : ℕ) → (used + len ≤ 67108864 → ⊥) → used ≡ there → len ≡ size → 67108864 < there + size
past used there len size beyond is same = omega (arith, beyond)

pub up_to : (used there len size : ℕ) → used + len ≤ 67108864 → used ≡ there → len ≡ size → there + size ≤ 67108864
up_to used there len size fits is same = omega arith

pub is_in_doubt : {S X : Type 0} (model : StoreModel S) (d : Durable) (r : Record) (size its : ℕ) (store store' : S) (q : Result X StepFault)
    → (e : StepFault) × (q ≡ Err e) × (e ≡ Halted) → IsInDoubt model d r size its store store' → Keeps model d r size its store store' q
is_in_doubt model d r size its store store' q (e, is, halted) doubt = subst (Keeps model d r size its store store') (sym (is ∙ ap Err halted)) doubt

pub spelled_len : (format : ℕ) (r : Record) (body : List ℕ) → IsSpelledAs format r body → length body ≡ body_size r
spelled_len format r body is = ap length is.is ∙ body_len second_format window_of_second r (in_second format r is.canonical).fields

pub image_len : (d : Durable) (r : Record) (body : List ℕ) → IsImageOf d r body → length body ≡ body_size r
image_len d r body is = ap length is.is ∙ body_len second_format window_of_second r is.canonical.fields

apart : (a b : ℕ) → a < b → (b == a) ≡ false
apart a b lt = grind (arith, nat_tests)

moved_on : (d e : Durable) → d.used < e.used → has_stored d e ≡ true
moved_on d e more = ap (λ b. not (b && e.generation == d.generation)) (apart d.used e.used more)

next_moved : (d e : Durable) → e.generation ≡ suc d.generation → has_stored d e ≡ true
next_moved d e next = ap (λ b. not (e.used == d.used && b)) (apart d.generation e.generation (omega (arith, next))) ∙ never (e.used == d.used)
  where
    never : (b : Bool) → not (b && false) ≡ true
    never true = refl
    never false = refl

-- a record that is added moves the state on
pub added_moves : (d : Durable) (r : Record) → is_image r ≡ false → has_stored d (stored d r) ≡ true
unfolding stored body_size
added_moves d (ImageRecord generation term vote applied sectors) added = absurd (true≢false added)
added_moves d (TermRecord term) added = moved_on d (stored d (TermRecord term)) (omega arith)
added_moves d (EntryRecord e) added = moved_on d (stored d (EntryRecord e)) (omega arith)
added_moves d (MergedRecord term first es) added = moved_on d (stored d (MergedRecord term first es)) (omega arith)

-- and so does the image of the next generation
pub image_moves : (d : Durable) (r : Record) (body : List ℕ) → IsImageOf d r body → has_stored d (stored d r) ≡ true
unfolding stored
image_moves d (ImageRecord generation term vote applied sectors) body is = next_moved d (stored d (ImageRecord generation term vote applied sectors)) is.next
image_moves d (TermRecord term) body is = absurd is.next
image_moves d (EntryRecord e) body is = absurd is.next
image_moves d (MergedRecord term first es) body is = absurd is.next
