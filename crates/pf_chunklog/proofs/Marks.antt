-- Where a record stands in the bytes of its file.
use Rattle.std.proofs.Common.{◌≡◌, ℕ, ◌+◌, ◌-◌, List, [], ◌∷◌, ◌++◌, length, take, drop, sym, ◌∙◌, ap, arith, append_assoc, length-append}
use Rattle.std.specs.Int.{w32, to_be_bytes}
use Rattle.std.proofs.lemmas.List.{drop_at, map-append, take_at}
use Rattle.pf_chunklog.specs.Records.{Raw, blocks}
use Rattle.pf_chunklog.specs.Marks.{raw_at, raws_at}
use Rattle.pf_chunklog.specs.declared.records.Mark.{Mark}
use Rattle.pf_chunklog.proofs.Unique.{blocks_are}

-- the bytes of a file in front of a payload
pub record StandsIn (file payload after : List ℕ) : Type 0 where
  pub front : List ℕ
  pub is : file ≡ front ++ (payload ++ after)
  pub size : length file ≡ length front + length payload + length after

-- the payload of the first block of what is left of a file
pub stands_in : (file front left payload after : List ℕ) (kind : ℕ) → file ≡ front ++ left → left ≡ blocks ((kind, payload) ∷ []) ++ after → StandsIn file payload after
stands_in file front left payload after kind is here =
    let head = 1 ∷ kind ∷ to_be_bytes w32 (length payload) in
    let whole : file ≡ (front ++ head) ++ (payload ++ after) =
    is ∙ ap (λ (l : List ℕ). front ++ l) (here ∙ blocks_are (kind, payload) [] after ∙ ap (λ (l : List ℕ). 1 ∷ kind ∷ l) (append_assoc (to_be_bytes w32 (length payload)) payload after))
    ∙ sym (append_assoc front head (payload ++ after)) in
    record {
      front = front ++ head;
      is = whole;
      size = omega (arith, ap length whole, length-append (front ++ head) (payload ++ after), length-append payload after);
    }

-- the record of a mark
pub marked : (file payload after : List ℕ) (mark : Mark) → StandsIn file payload after → mark.to ≡ length file - length after → mark.from ≡ mark.to - length payload → raw_at file mark ≡ (mark.kind, payload)
marked file payload after mark stands to_is from_is =
    ap (λ (l : List ℕ). (mark.kind, l))
    (ap (λ (l : List ℕ). take (mark.to - mark.from) (drop mark.from l)) stands.is
    ∙ ap (λ (l : List ℕ). take (mark.to - mark.from) l) (drop_at stands.front (payload ++ after) mark.from (omega (arith, stands.size, to_is, from_is)))
    ∙ take_at payload after (mark.to - mark.from) (omega (arith, stands.size, to_is, from_is)))

-- one mark more
pub raws_more : (file : List ℕ) (marks : List Mark) (mark : Mark) (raw : Raw) → raw_at file mark ≡ raw → raws_at file (marks ++ mark ∷ []) ≡ raws_at file marks ++ raw ∷ []
raws_more file marks mark raw is = map-append (raw_at file) marks (mark ∷ []) ∙ ap (λ (r : Raw). raws_at file marks ++ r ∷ []) is
