use Rattle.std.proofs.Common.{◌≡◌, ◌-◌, ◌++◌, [], ◌∷◌, ℕ, List, length, refl, ap, subst, ◌∙◌, sym, arith, append_assoc}
use Rattle.std.specs.List.{All, slice_get}
use Rattle.std.proofs.lemmas.List.Elements.{All-push}
use Rattle.pf_chunklog.specs.Records.{Raw, RecordIsSized, blocks}
use Rattle.pf_chunklog.specs.Marks.{MarkIsWithin, raws_at}
use Rattle.pf_chunklog.specs.declared.records.Mark.{Mark}
use Rattle.pf_chunklog.proofs.Marks.{marked, raws_more, stands_in}
use Rattle.pf_chunklog.proofs.Parts.{split_more, no_end}
use Rattle.pf_chunklog.proofs.reading.split_records.Goals as goal

pub loop-kind-preserved : goal.loop-kind-preserved
loop-kind-preserved c =
    let file = c.args.file.now in
    let marks = c.loop-kind.marks.items in
    let payload = c.in-Some.payload.now in
    let after = c.in-Some.after.now in
    let raw : Raw = (c.in-Some.kind, payload) in
    let front = c.loop-kind.invariant.front in
    let found = c.in-Some.ensures.some in
    let end = length file - length after in
    let mark : Mark = record { kind = c.in-Some.kind; from = end - length payload; to = end } in
    let stands = stands_in file front.0 c.loop-kind.left.now payload after c.in-Some.kind front.1 found.0 in
    let items : raws_at file c.push.new.self.items ≡ raws_at file marks ++ raw ∷ [] =
    ap (λ (l : List Mark). raws_at file l) c.in_ok-push.ensures.items ∙ raws_more file marks mark raw (marked file payload after mark stands refl refl) in
    record {
      front = (front.0 ++ blocks (raw ∷ []), front.1 ∙ ap (λ (l : List ℕ). front.0 ++ l) found.0 ∙ sym (append_assoc front.0 (blocks (raw ∷ [])) after));
      split = split_more c.args.rest.now (raws_at file marks) c.loop-kind.left.now raw after c.loop-kind.invariant.split found.0 ∙ ap (λ (l : List Raw). blocks l ++ after) (sym items);
      inside = subst (λ (l : List Mark). All (MarkIsWithin (length file)) l) (sym c.in_ok-push.ensures.items) (All-push (MarkIsWithin (length file)) marks mark c.loop-kind.invariant.inside (omega (arith, stands.size), omega (arith, stands.size)));
      sized = subst (λ (l : List Raw). All RecordIsSized l) (sym items) (All-push RecordIsSized (raws_at file marks) raw c.loop-kind.invariant.sized found.1);
    }

pub returns-in_default-first-clause-none : goal.returns-in_default-first-clause-none
returns-in_default-first-clause-none c = λ _. no_end c.args.rest.now c.loop-kind.left.now (raws_at c.args.file.now c.loop-kind.marks.items) c.loop-kind.invariant.split c.loop-kind.invariant.sized (c.in_default.ensures.none refl) (λ gate tail is. absurd (omega (arith, c.in_default-first.ensures.item.3, ap length is)))

pub returns-then-gate-eq1-clause-none : goal.returns-then-gate-eq1-clause-none
returns-then-gate-eq1-clause-none c = λ _. no_end c.args.rest.now c.loop-kind.left.now (raws_at c.args.file.now c.loop-kind.marks.items) c.loop-kind.invariant.split c.loop-kind.invariant.sized (c.in_default.ensures.none refl) (λ gate tail is. let e = c.in-Some-first.ensures.value ∙ ap (λ (l : List ℕ). slice_get l 0) is in cc (e, c.if-gate-eq1.true))
