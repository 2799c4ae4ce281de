use Rattle.std.proofs.Common.{◌≡◌, ◌+◌, ◌++◌, [], ◌∷◌, ℕ, List, IfSome, length, inl, sym, ◌∙◌, subst}
use Rattle.std.proofs.lemmas.Bool.{leb-true}
use Rattle.pf_disk.specs.Files.{end_of_write}
use Rattle.pf_chunklog.specs.Records.{Raw, HalfHolds, body_of}
use Rattle.pf_chunklog.specs.Logs.{BeforeOrAfter, LogIsAtRest, LeavesOnly}
use Rattle.pf_chunklog.proofs.Moments.{started, goes_on}
use Rattle.pf_chunklog.proofs.Steps.{told, if_some, is_sized}
use Rattle.pf_chunklog.proofs.Steps as steps
use Rattle.pf_chunklog.proofs.log.ChunkLog.append.Goals as goal

pub returns-in_err-write_at-clause-may_leave : goal.returns-in_err-write_at-clause-may_leave
returns-in_err-write_at-clause-may_leave g c = if_some (g.D.Disk.seen c.args.self.now.disk) (λ old. (raw : Raw) (records : List Raw) → c.args.body.now ≡ body_of raw → LogIsAtRest c.args.self.now.head c.args.self.now.used (g.D.Disk.may_leave c.args.self.now.disk) records old → (f : List ℕ) → g.D.Disk.may_leave c.write_at.new.self f → BeforeOrAfter c.args.self.now.head records raw f) (λ file is raw records body_is rest f left.
    let raw_sized = is_sized raw c.args.body.now c.args.self.now.used body_is (leb-true (c.args.self.now.used + length c.args.body.now) 67108864 (sym c.has_room.ensures ∙ c.if-not-has_room.false)) in
    let first = steps.after_write c.args.self.now.head records raw file c.args.self.now.used (g.D.Disk.may_leave c.args.self.now.disk) raw_sized rest (end_of_write c.args.self.now.used (length c.args.body.now)) (g.D.Disk.may_leave c.write_at.new.self) (told _ file _ is c.write_at.ensures.crash) in
    first f left)

pub returns-in_err-write_at-clause-any_moment : goal.returns-in_err-write_at-clause-any_moment
returns-in_err-write_at-clause-any_moment g c = λ tells. if_some (g.D.Disk.seen c.args.self.now.disk) (λ old. (raw : Raw) (records : List Raw) → c.args.body.now ≡ body_of raw → LogIsAtRest c.args.self.now.head c.args.self.now.used (g.D.Disk.may_leave c.args.self.now.disk) records old → LeavesOnly g.D.Disk.moment g.D.Disk.left_since c.args.self.now.disk c.write_at.new.self (BeforeOrAfter c.args.self.now.head records raw)) (λ file is raw records body_is rest.
    let raw_sized = is_sized raw c.args.body.now c.args.self.now.used body_is (leb-true (c.args.self.now.used + length c.args.body.now) 67108864 (sym c.has_room.ensures ∙ c.if-not-has_room.false)) in
    let first = steps.after_write c.args.self.now.head records raw file c.args.self.now.used (g.D.Disk.may_leave c.args.self.now.disk) raw_sized rest (end_of_write c.args.self.now.used (length c.args.body.now)) (g.D.Disk.may_leave c.write_at.new.self) (told _ file _ is c.write_at.ensures.crash) in
    let P = BeforeOrAfter c.args.self.now.head records raw in
    let m0 = started g.D.Disk.moment g.D.Disk.left_since c.args.self.now.disk P (λ f left. inl (subst (λ (l : List ℕ). HalfHolds c.args.self.now.head records l) (sym (rest.durable f (g.met.D.Disk.only_now tells c.args.self.now.disk f left))) rest.held)) in
    let m1 = goes_on g.D.Disk.moment g.D.Disk.left_since c.args.self.now.disk c.args.self.now.disk c.write_at.new.self P (g.D.Disk.may_leave c.write_at.new.self) m0 c.write_at.ensures.time first in
    m1)

pub returns-in_err-sync-clause-may_leave : goal.returns-in_err-sync-clause-may_leave
returns-in_err-sync-clause-may_leave g c = if_some (g.D.Disk.seen c.args.self.now.disk) (λ old. (raw : Raw) (records : List Raw) → c.args.body.now ≡ body_of raw → LogIsAtRest c.args.self.now.head c.args.self.now.used (g.D.Disk.may_leave c.args.self.now.disk) records old → (f : List ℕ) → g.D.Disk.may_leave c.sync.new.self f → BeforeOrAfter c.args.self.now.head records raw f) (λ file is raw records body_is rest f left.
    let raw_sized = is_sized raw c.args.body.now c.args.self.now.used body_is (leb-true (c.args.self.now.used + length c.args.body.now) 67108864 (sym c.has_room.ensures ∙ c.if-not-has_room.false)) in
    let first = steps.after_write c.args.self.now.head records raw file c.args.self.now.used (g.D.Disk.may_leave c.args.self.now.disk) raw_sized rest (end_of_write c.args.self.now.used (length c.args.body.now)) (g.D.Disk.may_leave c.write_at.new.self) (told _ file _ is c.write_at.ensures.crash) in
    first f (c.sync.ensures.crash f left))

pub returns-in_err-sync-clause-any_moment : goal.returns-in_err-sync-clause-any_moment
returns-in_err-sync-clause-any_moment g c = λ tells. if_some (g.D.Disk.seen c.args.self.now.disk) (λ old. (raw : Raw) (records : List Raw) → c.args.body.now ≡ body_of raw → LogIsAtRest c.args.self.now.head c.args.self.now.used (g.D.Disk.may_leave c.args.self.now.disk) records old → LeavesOnly g.D.Disk.moment g.D.Disk.left_since c.args.self.now.disk c.sync.new.self (BeforeOrAfter c.args.self.now.head records raw)) (λ file is raw records body_is rest.
    let raw_sized = is_sized raw c.args.body.now c.args.self.now.used body_is (leb-true (c.args.self.now.used + length c.args.body.now) 67108864 (sym c.has_room.ensures ∙ c.if-not-has_room.false)) in
    let first = steps.after_write c.args.self.now.head records raw file c.args.self.now.used (g.D.Disk.may_leave c.args.self.now.disk) raw_sized rest (end_of_write c.args.self.now.used (length c.args.body.now)) (g.D.Disk.may_leave c.write_at.new.self) (told _ file _ is c.write_at.ensures.crash) in
    let P = BeforeOrAfter c.args.self.now.head records raw in
    let m0 = started g.D.Disk.moment g.D.Disk.left_since c.args.self.now.disk P (λ f left. inl (subst (λ (l : List ℕ). HalfHolds c.args.self.now.head records l) (sym (rest.durable f (g.met.D.Disk.only_now tells c.args.self.now.disk f left))) rest.held)) in
    let m1 = goes_on g.D.Disk.moment g.D.Disk.left_since c.args.self.now.disk c.args.self.now.disk c.write_at.new.self P (g.D.Disk.may_leave c.write_at.new.self) m0 c.write_at.ensures.time first in
    let m2 = goes_on g.D.Disk.moment g.D.Disk.left_since c.args.self.now.disk c.write_at.new.self c.sync.new.self P (g.D.Disk.may_leave c.sync.new.self) m1 c.sync.ensures.time (λ f left. first f (c.sync.ensures.crash f left)) in
    m2)

pub returns-in_err-write_at-2-clause-may_leave : goal.returns-in_err-write_at-2-clause-may_leave
returns-in_err-write_at-2-clause-may_leave g c = if_some (g.D.Disk.seen c.args.self.now.disk) (λ old. (raw : Raw) (records : List Raw) → c.args.body.now ≡ body_of raw → LogIsAtRest c.args.self.now.head c.args.self.now.used (g.D.Disk.may_leave c.args.self.now.disk) records old → (f : List ℕ) → g.D.Disk.may_leave c.write_at-2.new.self f → BeforeOrAfter c.args.self.now.head records raw f) (λ file is raw records body_is rest f left.
    let raw_sized = is_sized raw c.args.body.now c.args.self.now.used body_is (leb-true (c.args.self.now.used + length c.args.body.now) 67108864 (sym c.has_room.ensures ∙ c.if-not-has_room.false)) in
    let first = steps.after_write c.args.self.now.head records raw file c.args.self.now.used (g.D.Disk.may_leave c.args.self.now.disk) raw_sized rest (end_of_write c.args.self.now.used (length c.args.body.now)) (g.D.Disk.may_leave c.write_at.new.self) (told _ file _ is c.write_at.ensures.crash) in
    let is1 = told _ file _ is c.in_ok-write_at.ensures.written in
    let only2 = told _ _ _ is1 c.in_ok-sync.ensures.durable in
    let is2 = c.sync.ensures.seen ∙ is1 in
    let second = steps.after_gate c.args.self.now.head records raw file c.args.self.now.used (g.D.Disk.may_leave c.args.self.now.disk) raw_sized rest c.saturating_sub-gate.result c.args.body.now (g.D.Disk.may_leave c.sync.new.self) (g.D.Disk.may_leave c.write_at-2.new.self) c.saturating_sub-gate.ensures body_is only2 (told _ _ _ is2 c.write_at-2.ensures.crash) in
    second f left)

pub returns-in_err-write_at-2-clause-any_moment : goal.returns-in_err-write_at-2-clause-any_moment
returns-in_err-write_at-2-clause-any_moment g c = λ tells. if_some (g.D.Disk.seen c.args.self.now.disk) (λ old. (raw : Raw) (records : List Raw) → c.args.body.now ≡ body_of raw → LogIsAtRest c.args.self.now.head c.args.self.now.used (g.D.Disk.may_leave c.args.self.now.disk) records old → LeavesOnly g.D.Disk.moment g.D.Disk.left_since c.args.self.now.disk c.write_at-2.new.self (BeforeOrAfter c.args.self.now.head records raw)) (λ file is raw records body_is rest.
    let raw_sized = is_sized raw c.args.body.now c.args.self.now.used body_is (leb-true (c.args.self.now.used + length c.args.body.now) 67108864 (sym c.has_room.ensures ∙ c.if-not-has_room.false)) in
    let first = steps.after_write c.args.self.now.head records raw file c.args.self.now.used (g.D.Disk.may_leave c.args.self.now.disk) raw_sized rest (end_of_write c.args.self.now.used (length c.args.body.now)) (g.D.Disk.may_leave c.write_at.new.self) (told _ file _ is c.write_at.ensures.crash) in
    let is1 = told _ file _ is c.in_ok-write_at.ensures.written in
    let only2 = told _ _ _ is1 c.in_ok-sync.ensures.durable in
    let is2 = c.sync.ensures.seen ∙ is1 in
    let second = steps.after_gate c.args.self.now.head records raw file c.args.self.now.used (g.D.Disk.may_leave c.args.self.now.disk) raw_sized rest c.saturating_sub-gate.result c.args.body.now (g.D.Disk.may_leave c.sync.new.self) (g.D.Disk.may_leave c.write_at-2.new.self) c.saturating_sub-gate.ensures body_is only2 (told _ _ _ is2 c.write_at-2.ensures.crash) in
    let P = BeforeOrAfter c.args.self.now.head records raw in
    let m0 = started g.D.Disk.moment g.D.Disk.left_since c.args.self.now.disk P (λ f left. inl (subst (λ (l : List ℕ). HalfHolds c.args.self.now.head records l) (sym (rest.durable f (g.met.D.Disk.only_now tells c.args.self.now.disk f left))) rest.held)) in
    let m1 = goes_on g.D.Disk.moment g.D.Disk.left_since c.args.self.now.disk c.args.self.now.disk c.write_at.new.self P (g.D.Disk.may_leave c.write_at.new.self) m0 c.write_at.ensures.time first in
    let m2 = goes_on g.D.Disk.moment g.D.Disk.left_since c.args.self.now.disk c.write_at.new.self c.sync.new.self P (g.D.Disk.may_leave c.sync.new.self) m1 c.sync.ensures.time (λ f left. first f (c.sync.ensures.crash f left)) in
    let m3 = goes_on g.D.Disk.moment g.D.Disk.left_since c.args.self.now.disk c.sync.new.self c.write_at-2.new.self P (g.D.Disk.may_leave c.write_at-2.new.self) m2 c.write_at-2.ensures.time second in
    m3)

pub returns-in_err-sync-2-clause-may_leave : goal.returns-in_err-sync-2-clause-may_leave
returns-in_err-sync-2-clause-may_leave g c = if_some (g.D.Disk.seen c.args.self.now.disk) (λ old. (raw : Raw) (records : List Raw) → c.args.body.now ≡ body_of raw → LogIsAtRest c.args.self.now.head c.args.self.now.used (g.D.Disk.may_leave c.args.self.now.disk) records old → (f : List ℕ) → g.D.Disk.may_leave c.sync-2.new.self f → BeforeOrAfter c.args.self.now.head records raw f) (λ file is raw records body_is rest f left.
    let raw_sized = is_sized raw c.args.body.now c.args.self.now.used body_is (leb-true (c.args.self.now.used + length c.args.body.now) 67108864 (sym c.has_room.ensures ∙ c.if-not-has_room.false)) in
    let first = steps.after_write c.args.self.now.head records raw file c.args.self.now.used (g.D.Disk.may_leave c.args.self.now.disk) raw_sized rest (end_of_write c.args.self.now.used (length c.args.body.now)) (g.D.Disk.may_leave c.write_at.new.self) (told _ file _ is c.write_at.ensures.crash) in
    let is1 = told _ file _ is c.in_ok-write_at.ensures.written in
    let only2 = told _ _ _ is1 c.in_ok-sync.ensures.durable in
    let is2 = c.sync.ensures.seen ∙ is1 in
    let second = steps.after_gate c.args.self.now.head records raw file c.args.self.now.used (g.D.Disk.may_leave c.args.self.now.disk) raw_sized rest c.saturating_sub-gate.result c.args.body.now (g.D.Disk.may_leave c.sync.new.self) (g.D.Disk.may_leave c.write_at-2.new.self) c.saturating_sub-gate.ensures body_is only2 (told _ _ _ is2 c.write_at-2.ensures.crash) in
    second f (c.sync-2.ensures.crash f left))

pub returns-in_err-sync-2-clause-any_moment : goal.returns-in_err-sync-2-clause-any_moment
returns-in_err-sync-2-clause-any_moment g c = λ tells. if_some (g.D.Disk.seen c.args.self.now.disk) (λ old. (raw : Raw) (records : List Raw) → c.args.body.now ≡ body_of raw → LogIsAtRest c.args.self.now.head c.args.self.now.used (g.D.Disk.may_leave c.args.self.now.disk) records old → LeavesOnly g.D.Disk.moment g.D.Disk.left_since c.args.self.now.disk c.sync-2.new.self (BeforeOrAfter c.args.self.now.head records raw)) (λ file is raw records body_is rest.
    let raw_sized = is_sized raw c.args.body.now c.args.self.now.used body_is (leb-true (c.args.self.now.used + length c.args.body.now) 67108864 (sym c.has_room.ensures ∙ c.if-not-has_room.false)) in
    let first = steps.after_write c.args.self.now.head records raw file c.args.self.now.used (g.D.Disk.may_leave c.args.self.now.disk) raw_sized rest (end_of_write c.args.self.now.used (length c.args.body.now)) (g.D.Disk.may_leave c.write_at.new.self) (told _ file _ is c.write_at.ensures.crash) in
    let is1 = told _ file _ is c.in_ok-write_at.ensures.written in
    let only2 = told _ _ _ is1 c.in_ok-sync.ensures.durable in
    let is2 = c.sync.ensures.seen ∙ is1 in
    let second = steps.after_gate c.args.self.now.head records raw file c.args.self.now.used (g.D.Disk.may_leave c.args.self.now.disk) raw_sized rest c.saturating_sub-gate.result c.args.body.now (g.D.Disk.may_leave c.sync.new.self) (g.D.Disk.may_leave c.write_at-2.new.self) c.saturating_sub-gate.ensures body_is only2 (told _ _ _ is2 c.write_at-2.ensures.crash) in
    let P = BeforeOrAfter c.args.self.now.head records raw in
    let m0 = started g.D.Disk.moment g.D.Disk.left_since c.args.self.now.disk P (λ f left. inl (subst (λ (l : List ℕ). HalfHolds c.args.self.now.head records l) (sym (rest.durable f (g.met.D.Disk.only_now tells c.args.self.now.disk f left))) rest.held)) in
    let m1 = goes_on g.D.Disk.moment g.D.Disk.left_since c.args.self.now.disk c.args.self.now.disk c.write_at.new.self P (g.D.Disk.may_leave c.write_at.new.self) m0 c.write_at.ensures.time first in
    let m2 = goes_on g.D.Disk.moment g.D.Disk.left_since c.args.self.now.disk c.write_at.new.self c.sync.new.self P (g.D.Disk.may_leave c.sync.new.self) m1 c.sync.ensures.time (λ f left. first f (c.sync.ensures.crash f left)) in
    let m3 = goes_on g.D.Disk.moment g.D.Disk.left_since c.args.self.now.disk c.sync.new.self c.write_at-2.new.self P (g.D.Disk.may_leave c.write_at-2.new.self) m2 c.write_at-2.ensures.time second in
    let m4 = goes_on g.D.Disk.moment g.D.Disk.left_since c.args.self.now.disk c.write_at-2.new.self c.sync-2.new.self P (g.D.Disk.may_leave c.sync-2.new.self) m3 c.sync-2.ensures.time (λ f left. second f (c.sync-2.ensures.crash f left)) in
    m4)

pub returns-clause-may_leave : goal.returns-clause-may_leave
returns-clause-may_leave g c = if_some (g.D.Disk.seen c.args.self.now.disk) (λ old. (raw : Raw) (records : List Raw) → c.args.body.now ≡ body_of raw → LogIsAtRest c.args.self.now.head c.args.self.now.used (g.D.Disk.may_leave c.args.self.now.disk) records old → (f : List ℕ) → g.D.Disk.may_leave c.sync-2.new.self f → BeforeOrAfter c.args.self.now.head records raw f) (λ file is raw records body_is rest f left.
    let raw_sized = is_sized raw c.args.body.now c.args.self.now.used body_is (leb-true (c.args.self.now.used + length c.args.body.now) 67108864 (sym c.has_room.ensures ∙ c.if-not-has_room.false)) in
    let first = steps.after_write c.args.self.now.head records raw file c.args.self.now.used (g.D.Disk.may_leave c.args.self.now.disk) raw_sized rest (end_of_write c.args.self.now.used (length c.args.body.now)) (g.D.Disk.may_leave c.write_at.new.self) (told _ file _ is c.write_at.ensures.crash) in
    let is1 = told _ file _ is c.in_ok-write_at.ensures.written in
    let only2 = told _ _ _ is1 c.in_ok-sync.ensures.durable in
    let is2 = c.sync.ensures.seen ∙ is1 in
    let second = steps.after_gate c.args.self.now.head records raw file c.args.self.now.used (g.D.Disk.may_leave c.args.self.now.disk) raw_sized rest c.saturating_sub-gate.result c.args.body.now (g.D.Disk.may_leave c.sync.new.self) (g.D.Disk.may_leave c.write_at-2.new.self) c.saturating_sub-gate.ensures body_is only2 (told _ _ _ is2 c.write_at-2.ensures.crash) in
    second f (c.sync-2.ensures.crash f left))

pub returns-clause-any_moment : goal.returns-clause-any_moment
returns-clause-any_moment g c = λ tells. if_some (g.D.Disk.seen c.args.self.now.disk) (λ old. (raw : Raw) (records : List Raw) → c.args.body.now ≡ body_of raw → LogIsAtRest c.args.self.now.head c.args.self.now.used (g.D.Disk.may_leave c.args.self.now.disk) records old → LeavesOnly g.D.Disk.moment g.D.Disk.left_since c.args.self.now.disk c.sync-2.new.self (BeforeOrAfter c.args.self.now.head records raw)) (λ file is raw records body_is rest.
    let raw_sized = is_sized raw c.args.body.now c.args.self.now.used body_is (leb-true (c.args.self.now.used + length c.args.body.now) 67108864 (sym c.has_room.ensures ∙ c.if-not-has_room.false)) in
    let first = steps.after_write c.args.self.now.head records raw file c.args.self.now.used (g.D.Disk.may_leave c.args.self.now.disk) raw_sized rest (end_of_write c.args.self.now.used (length c.args.body.now)) (g.D.Disk.may_leave c.write_at.new.self) (told _ file _ is c.write_at.ensures.crash) in
    let is1 = told _ file _ is c.in_ok-write_at.ensures.written in
    let only2 = told _ _ _ is1 c.in_ok-sync.ensures.durable in
    let is2 = c.sync.ensures.seen ∙ is1 in
    let second = steps.after_gate c.args.self.now.head records raw file c.args.self.now.used (g.D.Disk.may_leave c.args.self.now.disk) raw_sized rest c.saturating_sub-gate.result c.args.body.now (g.D.Disk.may_leave c.sync.new.self) (g.D.Disk.may_leave c.write_at-2.new.self) c.saturating_sub-gate.ensures body_is only2 (told _ _ _ is2 c.write_at-2.ensures.crash) in
    let P = BeforeOrAfter c.args.self.now.head records raw in
    let m0 = started g.D.Disk.moment g.D.Disk.left_since c.args.self.now.disk P (λ f left. inl (subst (λ (l : List ℕ). HalfHolds c.args.self.now.head records l) (sym (rest.durable f (g.met.D.Disk.only_now tells c.args.self.now.disk f left))) rest.held)) in
    let m1 = goes_on g.D.Disk.moment g.D.Disk.left_since c.args.self.now.disk c.args.self.now.disk c.write_at.new.self P (g.D.Disk.may_leave c.write_at.new.self) m0 c.write_at.ensures.time first in
    let m2 = goes_on g.D.Disk.moment g.D.Disk.left_since c.args.self.now.disk c.write_at.new.self c.sync.new.self P (g.D.Disk.may_leave c.sync.new.self) m1 c.sync.ensures.time (λ f left. first f (c.sync.ensures.crash f left)) in
    let m3 = goes_on g.D.Disk.moment g.D.Disk.left_since c.args.self.now.disk c.sync.new.self c.write_at-2.new.self P (g.D.Disk.may_leave c.write_at-2.new.self) m2 c.write_at-2.ensures.time second in
    let m4 = goes_on g.D.Disk.moment g.D.Disk.left_since c.args.self.now.disk c.write_at-2.new.self c.sync-2.new.self P (g.D.Disk.may_leave c.sync-2.new.self) m3 c.sync-2.ensures.time (λ f left. second f (c.sync-2.ensures.crash f left)) in
    m4)

pub returns-clause-acknowledged : goal.returns-clause-acknowledged
returns-clause-acknowledged g c = if_some (g.D.Disk.seen c.args.self.now.disk) (λ old. (raw : Raw) (records : List Raw) → c.args.body.now ≡ body_of raw → LogIsAtRest c.args.self.now.head c.args.self.now.used (g.D.Disk.may_leave c.args.self.now.disk) records old → IfSome (g.D.Disk.seen c.sync-2.new.self) (LogIsAtRest c.args.self.now.head (c.args.self.now.used + length c.args.body.now) (g.D.Disk.may_leave c.sync-2.new.self) (records ++ raw ∷ []))) (λ file is raw records body_is rest.
    let raw_sized = is_sized raw c.args.body.now c.args.self.now.used body_is (leb-true (c.args.self.now.used + length c.args.body.now) 67108864 (sym c.has_room.ensures ∙ c.if-not-has_room.false)) in
    let first = steps.after_write c.args.self.now.head records raw file c.args.self.now.used (g.D.Disk.may_leave c.args.self.now.disk) raw_sized rest (end_of_write c.args.self.now.used (length c.args.body.now)) (g.D.Disk.may_leave c.write_at.new.self) (told _ file _ is c.write_at.ensures.crash) in
    let is1 = told _ file _ is c.in_ok-write_at.ensures.written in
    let only2 = told _ _ _ is1 c.in_ok-sync.ensures.durable in
    let is2 = c.sync.ensures.seen ∙ is1 in
    let second = steps.after_gate c.args.self.now.head records raw file c.args.self.now.used (g.D.Disk.may_leave c.args.self.now.disk) raw_sized rest c.saturating_sub-gate.result c.args.body.now (g.D.Disk.may_leave c.sync.new.self) (g.D.Disk.may_leave c.write_at-2.new.self) c.saturating_sub-gate.ensures body_is only2 (told _ _ _ is2 c.write_at-2.ensures.crash) in
    let is3 = told _ _ _ is2 c.in_ok-write_at-2.ensures.written in
    let only4 = told _ _ _ is3 c.in_ok-sync-2.ensures.durable in
    let is4 = c.sync-2.ensures.seen ∙ is3 in
    subst (λ v. IfSome v (LogIsAtRest c.args.self.now.head (c.args.self.now.used + length c.args.body.now) (g.D.Disk.may_leave c.sync-2.new.self) (records ++ raw ∷ []))) (sym is4)
    (steps.at_rest c.args.self.now.head records raw file c.args.self.now.used (g.D.Disk.may_leave c.args.self.now.disk) raw_sized rest c.saturating_sub-gate.result c.args.body.now (g.D.Disk.may_leave c.sync-2.new.self) c.saturating_sub-gate.ensures body_is only4))
