use Rattle.std.proofs.Common.{◌≡◌, ◌+◌, ◌^◌, ◌<◌, inl, inr, ⊎_elim, ℕ, List, Some, IfSome, length, sym, subst, ap, ◌∙◌, is_some}
use Rattle.std.specs.List.{slice_index}
use Rattle.pf_disk.specs.Crashes.{Only}
use Rattle.pf_chunklog.specs.Records.{Raw, blocks}
use Rattle.pf_chunklog.specs.declared.log.ChunkLog.{ChunkLog}
use Rattle.pf_chunklog.proofs.Steps.{told, if_some}
use Rattle.pf_image.specs.Halves.{of_half, other}
use Rattle.pf_image.specs.Recovery.{AreRecoverable, Content, Finds, FindsIn, IsFormat, RestartTakes}
use Rattle.pf_image.specs.Found.{HalfIsFound}
use Rattle.pf_image.specs.Current.{IsCurrent, LogIsReady}
use Rattle.pf_image.specs.declared.halves.Half.{Half}
use Rattle.pf_image.proofs.Files.{one_content, one_found}
use Rattle.pf_image.proofs.LoadedHalves.{if_err, pair_loaded, pair_ready, recoverable, same_half, same_stand, seen_half, still_whole, then_ready}
use Rattle.pf_image.proofs.Logs as logs
use Rattle.pf_image.proofs.pair.Pair.reload.Goals as goal

pub returns-in-Some-clause-found : goal.returns-in-Some-clause-found
returns-in-Some-clause-found g c = if_some (g.D.Disk.seen c.args.self.now.zero.disk) (λ first. IfSome (g.D.Disk.seen c.args.self.now.one.disk) (λ second. Finds c.args.self.now.head first second c.take.result.raws)) (λ first is_first. if_some (g.D.Disk.seen c.args.self.now.one.disk) (λ second. Finds c.args.self.now.head first second c.take.result.raws) (λ second is_second.
    let is = told _ (c.in-Some.half, c.in-Some.found) _ c.in-Some.is c.in_ok-taken.ensures.some in
    let older = told _ (c.in-Some.half, c.in-Some.found) _ c.in-Some.is (told _ second _ is_second (told _ first _ is_first c.in_ok-taken.ensures.older)) in
    let seen_file = seen_half g.D.Disk.seen c.in-Some.half c.args.self.now.zero c.args.self.now.one first second is_first is_second in
    let mine : RestartTakes c.args.self.now.head c.in-Some.half (of_half c.in-Some.half first second) (of_half (other c.in-Some.half) first second) c.in-Some.found.opened.records =
    record { recoverable = recoverable g.D.Disk.seen g.D.Disk.may_leave c.args.self.now.head c.in-Some.half _ _ c.in-Some.found (of_half c.in-Some.half first second) is seen_file; older = older } in
    (c.in-Some.half, subst (λ (l : List Raw). RestartTakes c.args.self.now.head c.in-Some.half (of_half c.in-Some.half first second) (of_half (other c.in-Some.half) first second) l) (sym c.take.ensures.raws) mine)))

pub returns-in-Some-clause-only_records : goal.returns-in-Some-clause-only_records
returns-in-Some-clause-only_records g c = if_some (g.D.Disk.seen c.args.self.now.zero.disk) (λ first. IfSome (g.D.Disk.seen c.args.self.now.one.disk) (λ second. (others : List Raw) → Finds c.args.self.now.head first second others → others ≡ c.take.result.raws)) (λ first is_first. if_some (g.D.Disk.seen c.args.self.now.one.disk) (λ second. (others : List Raw) → Finds c.args.self.now.head first second others → others ≡ c.take.result.raws) (λ second is_second others found.
    one_found c.args.self.now.head first second c.take.result.raws others (told _ second _ is_second (told _ first _ is_first (returns-in-Some-clause-found g c))) found))

pub returns-in-Some-clause-settled : goal.returns-in-Some-clause-settled
returns-in-Some-clause-settled g c = λ before after doubt tells.
    let zero_told = logs.told_file (g.D.Disk.seen c.args.self.now.zero.disk) tells.0 in
    let one_told = logs.told_file (g.D.Disk.seen c.args.self.now.one.disk) tells.1 in
    let first = zero_told.0 in
    let second = one_told.0 in
    let is_first = zero_told.1 in
    let is_second = one_told.1 in
    let is = told _ (c.in-Some.half, c.in-Some.found) _ c.in-Some.is c.in_ok-taken.ensures.some in
    let older = told _ (c.in-Some.half, c.in-Some.found) _ c.in-Some.is (told _ second _ is_second (told _ first _ is_first c.in_ok-taken.ensures.older)) in
    let seen_file = seen_half g.D.Disk.seen c.in-Some.half c.args.self.now.zero c.args.self.now.one first second is_first is_second in
    let mine : RestartTakes c.args.self.now.head c.in-Some.half (of_half c.in-Some.half first second) (of_half (other c.in-Some.half) first second) c.in-Some.found.opened.records =
    record { recoverable = recoverable g.D.Disk.seen g.D.Disk.may_leave c.args.self.now.head c.in-Some.half _ _ c.in-Some.found (of_half c.in-Some.half first second) is seen_file; older = older } in
    let rest = told _ (of_half c.in-Some.half first second) _ seen_file is.rest in
    let format_is : slice_index (of_half c.take.new.self.current c.take.new.self.zero c.take.new.self.one).head 4 ≡ slice_index c.in-Some.found.opened.head 4 =
    ap (λ (h : Half). slice_index (of_half h c.take.new.self.zero c.take.new.self.one).head 4) c.take.ensures.current ∙ ap (λ (l : List ℕ). slice_index l 4) c.take.ensures.log_head in
    let one = λ (content : Content) (found : FindsIn c.args.self.now.head first second content). one_content c.args.self.now.head first second c.in-Some.half c.in-Some.found.opened.head c.in-Some.found.opened.records content is.listed rest.held mine found in
    ⊎_elim (λ old. inl (c.take.ensures.raws ∙ (one before old).0, format_is ∙ (one before old).1)) (λ new. inr (c.take.ensures.raws ∙ (one after new).0, format_is ∙ (one after new).1))
    (doubt first second (told _ first _ is_first (g.met.D.Disk.among c.args.self.now.zero.disk)) (told _ second _ is_second (g.met.D.Disk.among c.args.self.now.one.disk)))

pub returns-in_err-taken-clause-err : goal.returns-in_err-taken-clause-err
returns-in_err-taken-clause-err g c = if_err c.from_residual.result (still_whole g.D.Disk.seen g.D.Disk.may_leave c.args.self.now c.find.new.self c.find.ensures.still c.find.ensures.zero c.find.ensures.one)

pub returns-in_err-taken-clause-same_err : goal.returns-in_err-taken-clause-same_err
returns-in_err-taken-clause-same_err g c = if_err c.from_residual.result (same_stand g.D.Disk.seen g.D.Disk.may_leave c.args.self.now c.find.new.self c.find.ensures.still)

pub returns-in_err-taken-clause-ready_err : goal.returns-in_err-taken-clause-ready_err
returns-in_err-taken-clause-ready_err g c = if_err c.from_residual.result (pair_ready g.D.Disk.seen g.D.Disk.may_leave c.args.self.now c.find.new.self c.find.ensures.still c.find.ensures.zero c.find.ensures.one)

pub returns-in-None-clause-err : goal.returns-in-None-clause-err
returns-in-None-clause-err g c = still_whole g.D.Disk.seen g.D.Disk.may_leave c.args.self.now c.find.new.self c.find.ensures.still c.find.ensures.zero c.find.ensures.one

pub returns-in-None-clause-same_err : goal.returns-in-None-clause-same_err
returns-in-None-clause-same_err g c = same_stand g.D.Disk.seen g.D.Disk.may_leave c.args.self.now c.find.new.self c.find.ensures.still

pub returns-in-None-clause-ready_err : goal.returns-in-None-clause-ready_err
returns-in-None-clause-ready_err g c = pair_ready g.D.Disk.seen g.D.Disk.may_leave c.args.self.now c.find.new.self c.find.ensures.still c.find.ensures.zero c.find.ensures.one

pub returns-in-None-clause-not_ours : goal.returns-in-None-clause-not_ours
returns-in-None-clause-not_ours g c = if_some (g.D.Disk.seen c.args.self.now.zero.disk) _ (λ first is_first. if_some (g.D.Disk.seen c.args.self.now.one.disk) _ (λ second is_second _ half records found.
    told _ second _ is_second (told _ first _ is_first c.in_ok-taken.ensures.none) (ap (λ o. is_some o) c.in-None.is) half records found))

pub returns-in-Some-clause-whole : goal.returns-in-Some-clause-whole
returns-in-Some-clause-whole g c = if_some (g.D.Disk.seen c.args.self.now.zero.disk) (λ _. IfSome (g.D.Disk.seen c.args.self.now.one.disk) (λ _. IsCurrent g.D.Disk.seen g.D.Disk.may_leave c.take.new.self.head c.take.new.self.current (of_half c.take.new.self.current c.take.new.self.zero c.take.new.self.one) (of_half (other c.take.new.self.current) c.take.new.self.zero c.take.new.self.one) c.take.result.raws)) (λ first is_first. if_some (g.D.Disk.seen c.args.self.now.one.disk) (λ _. IsCurrent g.D.Disk.seen g.D.Disk.may_leave c.take.new.self.head c.take.new.self.current (of_half c.take.new.self.current c.take.new.self.zero c.take.new.self.one) (of_half (other c.take.new.self.current) c.take.new.self.zero c.take.new.self.one) c.take.result.raws) (λ second is_second.
    let seen = g.D.Disk.seen in
    let may_leave = g.D.Disk.may_leave in
    let old = c.args.self.now in
    let new = c.take.new.self in
    let half = c.in-Some.half in
    let found = c.in-Some.found in
    let same_disk = same_half (λ (l : ChunkLog g.row.D.Denot). l.disk) half new.zero new.one c.find.new.self.zero c.find.new.self.one c.take.ensures.zero c.take.ensures.one in
    let is = subst (λ (d : g.row.D.Denot). HalfIsFound seen may_leave old.head half (of_half half old.zero old.one).disk d found) (sym same_disk) (told _ (half, found) _ c.in-Some.is c.in_ok-taken.ensures.some) in
    let older = told _ (half, found) _ c.in-Some.is (told _ second _ is_second (told _ first _ is_first c.in_ok-taken.ensures.older)) in
    let zero_seen : seen new.zero.disk ≡ Some first = ap seen c.take.ensures.zero ∙ c.find.ensures.zero.same ∙ is_first in
    let one_seen : seen new.one.disk ≡ Some second = ap seen c.take.ensures.one ∙ c.find.ensures.one.same ∙ is_second in
    let zero_only = subst (λ (d : g.row.D.Denot). Only first (may_leave d)) (sym c.take.ensures.zero) (told _ first _ is_first c.in_ok-taken.ensures.durable.zero) in
    let one_only = subst (λ (d : g.row.D.Denot). Only second (may_leave d)) (sym c.take.ensures.one) (told _ second _ is_second c.in_ok-taken.ensures.durable.one) in
    let built = pair_loaded seen may_leave old.head found old new first second is_first is_second zero_seen one_seen zero_only one_only half is older c.take.ensures.log_head c.take.ensures.log_used in
    subst (λ (l : List Raw). IsCurrent seen may_leave new.head new.current (of_half new.current new.zero new.one) (of_half (other new.current) new.zero new.one) l) (sym c.take.ensures.raws)
    (subst (λ (k : Half). IsCurrent seen may_leave new.head k (of_half k new.zero new.one) (of_half (other k) new.zero new.one) found.opened.records) (sym c.take.ensures.current)
    (subst (λ (h : List ℕ). IsCurrent seen may_leave h half (of_half half new.zero new.one) (of_half (other half) new.zero new.one) found.opened.records) (sym (c.take.ensures.head ∙ c.find.ensures.still.head)) built))))

pub returns-in-Some-clause-used : goal.returns-in-Some-clause-used
returns-in-Some-clause-used g c =
    let is = told _ (c.in-Some.half, c.in-Some.found) _ c.in-Some.is c.in_ok-taken.ensures.some in
    let used_is : (of_half c.take.new.self.current c.take.new.self.zero c.take.new.self.one).used ≡ c.in-Some.found.opened.used =
    ap (λ (h : Half). (of_half h c.take.new.self.zero c.take.new.self.one).used) c.take.ensures.current ∙ c.take.ensures.log_used in
    (used_is ∙ is.size ∙ ap (λ (l : List Raw). 9 + length (blocks l)) (sym c.take.ensures.raws), subst (λ (n : ℕ). n < 2 ^ 64) (sym used_is) is.word)

pub returns-in-Some-clause-recoverable : goal.returns-in-Some-clause-recoverable
returns-in-Some-clause-recoverable g c =
    let is = told _ (c.in-Some.half, c.in-Some.found) _ c.in-Some.is c.in_ok-taken.ensures.some in
    let format_is : slice_index (of_half c.take.new.self.current c.take.new.self.zero c.take.new.self.one).head 4 ≡ slice_index c.in-Some.found.opened.head 4 =
    ap (λ (h : Half). slice_index (of_half h c.take.new.self.zero c.take.new.self.one).head 4) c.take.ensures.current ∙ ap (λ (l : List ℕ). slice_index l 4) c.take.ensures.log_head in
    subst (λ (f : ℕ). AreRecoverable f c.take.result.raws) (sym format_is) (subst (λ (l : List Raw). AreRecoverable (slice_index c.in-Some.found.opened.head 4) l) (sym c.take.ensures.raws) is.sound.usable)

pub returns-in-Some-clause-known : goal.returns-in-Some-clause-known
returns-in-Some-clause-known g c =
    let is = told _ (c.in-Some.half, c.in-Some.found) _ c.in-Some.is c.in_ok-taken.ensures.some in
    let format_is : slice_index (of_half c.take.new.self.current c.take.new.self.zero c.take.new.self.one).head 4 ≡ slice_index c.in-Some.found.opened.head 4 =
    ap (λ (h : Half). slice_index (of_half h c.take.new.self.zero c.take.new.self.one).head 4) c.take.ensures.current ∙ ap (λ (l : List ℕ). slice_index l 4) c.take.ensures.log_head in
    subst IsFormat (sym format_is) is.listed.known

pub returns-in-Some-clause-ready : goal.returns-in-Some-clause-ready
returns-in-Some-clause-ready g c =
    let seen = g.D.Disk.seen in
    let may_leave = g.D.Disk.may_leave in
    let old = c.args.self.now in
    let new = c.take.new.self in
    let half = c.in-Some.half in
    let found = c.in-Some.found in
    let same_disk = same_half (λ (l : ChunkLog g.row.D.Denot). l.disk) half new.zero new.one c.find.new.self.zero c.find.new.self.one c.take.ensures.zero c.take.ensures.one in
    let is = subst (λ (d : g.row.D.Denot). HalfIsFound seen may_leave old.head half (of_half half old.zero old.one).disk d found) (sym same_disk) (told _ (half, found) _ c.in-Some.is c.in_ok-taken.ensures.some) in
    let same_seen = same_half (λ (l : ChunkLog g.row.D.Denot). seen l.disk) half new.zero new.one old.zero old.one (ap seen c.take.ensures.zero ∙ c.find.ensures.zero.same) (ap seen c.take.ensures.one ∙ c.find.ensures.one.same) in
    subst (λ (k : Half). LogIsReady seen may_leave (of_half k new.zero new.one)) (sym c.take.ensures.current)
    (then_ready seen may_leave old.head half (of_half half old.zero old.one).disk found (of_half half new.zero new.one) is same_seen c.take.ensures.log_head c.take.ensures.log_used)
