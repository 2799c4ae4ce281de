use Rattle.std.proofs.Common.{◌≡◌, ◌+◌, [], ℕ, List, length, ap, ◌∙◌, subst, sym, arith}
use Rattle.std.specs.Option.{is_some}
use Rattle.pf_chunklog.specs.Records.{Raw, HalfHolds, blocks}
use Rattle.pf_chunklog.specs.Logs.{LogIsAtRest}
use Rattle.pf_chunklog.specs.Marks.{raws_at}
use Rattle.pf_chunklog.proofs.Steps.{told, if_some}
use Rattle.pf_chunklog.proofs.Parts.{behind, in_front, long_head}
use Rattle.pf_chunklog.proofs.Unique.{one_list}
use Rattle.pf_chunklog.proofs.log.ChunkLog.read.Goals as goal

pub returns-in_default-2-clause-not_ours : goal.returns-in_default-2-clause-not_ours
returns-in_default-2-clause-not_ours g c = if_some (g.D.Disk.seen c.args.self.now.disk) _ (λ file is _ head has (records, held).
    let bytes_are : c.in_ok-bytes.bytes.items ≡ file = told _ file _ is c.in_ok-bytes.ensures.bytes in
    let found = c.in-Some.ensures.some in
    let size : length c.in-Some.head.now ≡ length head = long_head c.args.heads.now c.in-Some.head.now c.told-heads found.0 ∙ sym (long_head c.args.heads.now head c.told-heads has) in
    c.in_ok-marks.ensures.none (ap is_some c.in_default-2.is) records (behind c.in-Some.head.now head c.in-Some.rest.now file records size (sym bytes_are ∙ sym c.deref.ensures.value ∙ found.1) held))

pub returns-clause-records : goal.returns-clause-records
returns-clause-records g c = if_some (g.D.Disk.seen c.args.self.now.disk) (λ file. LogIsAtRest c.in-Some.head.now (9 + c.in-Some-2.size) (g.D.Disk.may_leave c.read_whole.new.disk) c.new-records.result file) (λ file is.
    let bytes_are : c.in_ok-bytes.bytes.items ≡ file = told _ file _ is c.in_ok-bytes.ensures.bytes in
    let only = told _ file _ is c.in_ok-bytes.ensures.durable in
    let found = c.in-Some.ensures.some in
    let marked = told _ (c.in-Some-2.marks, c.in-Some-2.size) _ c.in-Some-2.is c.in_ok-marks.ensures.some in
    let are : raws_at c.deref-2.result.now c.in-Some-2.marks.items ≡ c.new-records.result = ap (λ (l : List ℕ). raws_at l c.in-Some-2.marks.items) (c.deref-2.ensures.value ∙ sym c.in_ok-file.ensures) ∙ sym c.new-records.ensures in
    let split : HalfHolds [] c.new-records.result c.in-Some.rest.now × (c.in-Some-2.size ≡ length (blocks c.new-records.result)) =
    subst (λ (l : List Raw). HalfHolds [] l c.in-Some.rest.now × (c.in-Some-2.size ≡ length (blocks l))) are marked in
    record {
      held = in_front c.in-Some.head.now c.in-Some.rest.now file c.new-records.result (sym bytes_are ∙ sym c.deref.ensures.value ∙ found.1) split.0;
      size = omega (arith, split.1, long_head c.args.heads.now c.in-Some.head.now c.told-heads found.0);
      durable = only;
    })

pub returns-clause-only_records : goal.returns-clause-only_records
returns-clause-only_records g c = if_some (g.D.Disk.seen c.args.self.now.disk) (λ file. (others : List Raw) → HalfHolds c.in-Some.head.now others file → others ≡ c.new-records.result) (λ file is others held.
    let bytes_are : c.in_ok-bytes.bytes.items ≡ file = told _ file _ is c.in_ok-bytes.ensures.bytes in
    let found = c.in-Some.ensures.some in
    let marked = told _ (c.in-Some-2.marks, c.in-Some-2.size) _ c.in-Some-2.is c.in_ok-marks.ensures.some in
    let are : raws_at c.deref-2.result.now c.in-Some-2.marks.items ≡ c.new-records.result = ap (λ (l : List ℕ). raws_at l c.in-Some-2.marks.items) (c.deref-2.ensures.value ∙ sym c.in_ok-file.ensures) ∙ sym c.new-records.ensures in
    let split : HalfHolds [] c.new-records.result c.in-Some.rest.now × (c.in-Some-2.size ≡ length (blocks c.new-records.result)) =
    subst (λ (l : List Raw). HalfHolds [] l c.in-Some.rest.now × (c.in-Some-2.size ≡ length (blocks l))) are marked in
    one_list c.in-Some.head.now c.new-records.result others file (in_front c.in-Some.head.now c.in-Some.rest.now file c.new-records.result (sym bytes_are ∙ sym c.deref.ensures.value ∙ found.1) split.0) held)
