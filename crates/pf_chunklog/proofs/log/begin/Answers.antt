use Rattle.std.proofs.Common.{◌++◌, [], ◌∷◌, ℕ, List, IfSome, inl, length, sym, ◌∙◌, ap, subst, arith, length-append}
use Rattle.std.proofs.lemmas.List.{append-nil}
use Rattle.pf_chunklog.specs.Logs.{LogIsAtRest, IsCleared, LeavesOnly}
use Rattle.pf_chunklog.proofs.Format.{after_cut, after_start, empty}
use Rattle.pf_chunklog.proofs.Moments.{goes_on, started}
use Rattle.pf_chunklog.proofs.Steps.{told, if_some}
use Rattle.pf_chunklog.proofs.log.begin.Goals as goal

pub returns-in_err-cut-clause-may_leave : goal.returns-in_err-cut-clause-may_leave
returns-in_err-cut-clause-may_leave g c = if_some (g.D.Disk.seen c.args.disk.now) (λ _. (f : List ℕ) → g.D.Disk.may_leave c.cut.new.self f → IsCleared (g.D.Disk.may_leave c.args.disk.now) f) (λ file is.
    let first = after_cut (length file) (g.D.Disk.may_leave c.args.disk.now) (g.D.Disk.may_leave c.cut.new.self) (told _ file _ is c.cut.ensures.crash) in
    first)

pub returns-in_err-cut-clause-any_moment : goal.returns-in_err-cut-clause-any_moment
returns-in_err-cut-clause-any_moment g c = λ tells. if_some (g.D.Disk.seen c.args.disk.now) (λ _. LeavesOnly g.D.Disk.moment g.D.Disk.left_since c.args.disk.now c.cut.new.self (IsCleared (g.D.Disk.may_leave c.args.disk.now))) (λ file is.
    let first = after_cut (length file) (g.D.Disk.may_leave c.args.disk.now) (g.D.Disk.may_leave c.cut.new.self) (told _ file _ is c.cut.ensures.crash) in
    let m0 = started g.D.Disk.moment g.D.Disk.left_since c.args.disk.now (IsCleared (g.D.Disk.may_leave c.args.disk.now)) (λ f left. inl (f, [], g.met.D.Disk.only_now tells c.args.disk.now f left, sym (append-nil f))) in
    let m1 = goes_on g.D.Disk.moment g.D.Disk.left_since c.args.disk.now c.args.disk.now c.cut.new.self (IsCleared (g.D.Disk.may_leave c.args.disk.now)) (g.D.Disk.may_leave c.cut.new.self) m0 c.cut.ensures.time first in
    m1)

pub returns-in_err-sync-clause-may_leave : goal.returns-in_err-sync-clause-may_leave
returns-in_err-sync-clause-may_leave g c = if_some (g.D.Disk.seen c.args.disk.now) (λ _. (f : List ℕ) → g.D.Disk.may_leave c.sync.new.self f → IsCleared (g.D.Disk.may_leave c.args.disk.now) f) (λ file is.
    let first = after_cut (length file) (g.D.Disk.may_leave c.args.disk.now) (g.D.Disk.may_leave c.cut.new.self) (told _ file _ is c.cut.ensures.crash) in
    (λ f left. first f (c.sync.ensures.crash f left)))

pub returns-in_err-sync-clause-any_moment : goal.returns-in_err-sync-clause-any_moment
returns-in_err-sync-clause-any_moment g c = λ tells. if_some (g.D.Disk.seen c.args.disk.now) (λ _. LeavesOnly g.D.Disk.moment g.D.Disk.left_since c.args.disk.now c.sync.new.self (IsCleared (g.D.Disk.may_leave c.args.disk.now))) (λ file is.
    let first = after_cut (length file) (g.D.Disk.may_leave c.args.disk.now) (g.D.Disk.may_leave c.cut.new.self) (told _ file _ is c.cut.ensures.crash) in
    let m0 = started g.D.Disk.moment g.D.Disk.left_since c.args.disk.now (IsCleared (g.D.Disk.may_leave c.args.disk.now)) (λ f left. inl (f, [], g.met.D.Disk.only_now tells c.args.disk.now f left, sym (append-nil f))) in
    let m1 = goes_on g.D.Disk.moment g.D.Disk.left_since c.args.disk.now c.args.disk.now c.cut.new.self (IsCleared (g.D.Disk.may_leave c.args.disk.now)) (g.D.Disk.may_leave c.cut.new.self) m0 c.cut.ensures.time first in
    let m2 = goes_on g.D.Disk.moment g.D.Disk.left_since c.args.disk.now c.cut.new.self c.sync.new.self (IsCleared (g.D.Disk.may_leave c.args.disk.now)) (g.D.Disk.may_leave c.sync.new.self) m1 c.sync.ensures.time (λ f left. first f (c.sync.ensures.crash f left)) in
    m2)

pub returns-in_err-write_at-clause-may_leave : goal.returns-in_err-write_at-clause-may_leave
returns-in_err-write_at-clause-may_leave g c = if_some (g.D.Disk.seen c.args.disk.now) (λ _. (f : List ℕ) → g.D.Disk.may_leave c.write_at.new.self f → IsCleared (g.D.Disk.may_leave c.args.disk.now) f) (λ file is.
    let first = after_cut (length file) (g.D.Disk.may_leave c.args.disk.now) (g.D.Disk.may_leave c.cut.new.self) (told _ file _ is c.cut.ensures.crash) in
    let is1 = told _ file _ is c.in_ok-cut.ensures.resized in
    let is2 = c.sync.ensures.seen ∙ is1 in
    let only = told _ _ _ is1 c.in_ok-sync.ensures.durable in
    let second = after_start _ (g.D.Disk.may_leave c.args.disk.now) (g.D.Disk.may_leave c.sync.new.self) (g.D.Disk.may_leave c.write_at.new.self) (omega (arith, ap length c.copy_from_slice.ensures.after, c.copy_from_slice.ensures.len, c.copy_from_slice.auto.self, length-append c.copy_from_slice.new.self (0 ∷ []))) only (told _ _ _ is2 c.write_at.ensures.crash) in
    second)

pub returns-in_err-write_at-clause-any_moment : goal.returns-in_err-write_at-clause-any_moment
returns-in_err-write_at-clause-any_moment g c = λ tells. if_some (g.D.Disk.seen c.args.disk.now) (λ _. LeavesOnly g.D.Disk.moment g.D.Disk.left_since c.args.disk.now c.write_at.new.self (IsCleared (g.D.Disk.may_leave c.args.disk.now))) (λ file is.
    let first = after_cut (length file) (g.D.Disk.may_leave c.args.disk.now) (g.D.Disk.may_leave c.cut.new.self) (told _ file _ is c.cut.ensures.crash) in
    let is1 = told _ file _ is c.in_ok-cut.ensures.resized in
    let is2 = c.sync.ensures.seen ∙ is1 in
    let only = told _ _ _ is1 c.in_ok-sync.ensures.durable in
    let second = after_start _ (g.D.Disk.may_leave c.args.disk.now) (g.D.Disk.may_leave c.sync.new.self) (g.D.Disk.may_leave c.write_at.new.self) (omega (arith, ap length c.copy_from_slice.ensures.after, c.copy_from_slice.ensures.len, c.copy_from_slice.auto.self, length-append c.copy_from_slice.new.self (0 ∷ []))) only (told _ _ _ is2 c.write_at.ensures.crash) in
    let m0 = started g.D.Disk.moment g.D.Disk.left_since c.args.disk.now (IsCleared (g.D.Disk.may_leave c.args.disk.now)) (λ f left. inl (f, [], g.met.D.Disk.only_now tells c.args.disk.now f left, sym (append-nil f))) in
    let m1 = goes_on g.D.Disk.moment g.D.Disk.left_since c.args.disk.now c.args.disk.now c.cut.new.self (IsCleared (g.D.Disk.may_leave c.args.disk.now)) (g.D.Disk.may_leave c.cut.new.self) m0 c.cut.ensures.time first in
    let m2 = goes_on g.D.Disk.moment g.D.Disk.left_since c.args.disk.now c.cut.new.self c.sync.new.self (IsCleared (g.D.Disk.may_leave c.args.disk.now)) (g.D.Disk.may_leave c.sync.new.self) m1 c.sync.ensures.time (λ f left. first f (c.sync.ensures.crash f left)) in
    let m3 = goes_on g.D.Disk.moment g.D.Disk.left_since c.args.disk.now c.sync.new.self c.write_at.new.self (IsCleared (g.D.Disk.may_leave c.args.disk.now)) (g.D.Disk.may_leave c.write_at.new.self) m2 c.write_at.ensures.time second in
    m3)

pub returns-in_err-sync-2-clause-may_leave : goal.returns-in_err-sync-2-clause-may_leave
returns-in_err-sync-2-clause-may_leave g c = if_some (g.D.Disk.seen c.args.disk.now) (λ _. (f : List ℕ) → g.D.Disk.may_leave c.sync-2.new.self f → IsCleared (g.D.Disk.may_leave c.args.disk.now) f) (λ file is.
    let first = after_cut (length file) (g.D.Disk.may_leave c.args.disk.now) (g.D.Disk.may_leave c.cut.new.self) (told _ file _ is c.cut.ensures.crash) in
    let is1 = told _ file _ is c.in_ok-cut.ensures.resized in
    let is2 = c.sync.ensures.seen ∙ is1 in
    let only = told _ _ _ is1 c.in_ok-sync.ensures.durable in
    let second = after_start _ (g.D.Disk.may_leave c.args.disk.now) (g.D.Disk.may_leave c.sync.new.self) (g.D.Disk.may_leave c.write_at.new.self) (omega (arith, ap length c.copy_from_slice.ensures.after, c.copy_from_slice.ensures.len, c.copy_from_slice.auto.self, length-append c.copy_from_slice.new.self (0 ∷ []))) only (told _ _ _ is2 c.write_at.ensures.crash) in
    (λ f left. second f (c.sync-2.ensures.crash f left)))

pub returns-in_err-sync-2-clause-any_moment : goal.returns-in_err-sync-2-clause-any_moment
returns-in_err-sync-2-clause-any_moment g c = λ tells. if_some (g.D.Disk.seen c.args.disk.now) (λ _. LeavesOnly g.D.Disk.moment g.D.Disk.left_since c.args.disk.now c.sync-2.new.self (IsCleared (g.D.Disk.may_leave c.args.disk.now))) (λ file is.
    let first = after_cut (length file) (g.D.Disk.may_leave c.args.disk.now) (g.D.Disk.may_leave c.cut.new.self) (told _ file _ is c.cut.ensures.crash) in
    let is1 = told _ file _ is c.in_ok-cut.ensures.resized in
    let is2 = c.sync.ensures.seen ∙ is1 in
    let only = told _ _ _ is1 c.in_ok-sync.ensures.durable in
    let second = after_start _ (g.D.Disk.may_leave c.args.disk.now) (g.D.Disk.may_leave c.sync.new.self) (g.D.Disk.may_leave c.write_at.new.self) (omega (arith, ap length c.copy_from_slice.ensures.after, c.copy_from_slice.ensures.len, c.copy_from_slice.auto.self, length-append c.copy_from_slice.new.self (0 ∷ []))) only (told _ _ _ is2 c.write_at.ensures.crash) in
    let m0 = started g.D.Disk.moment g.D.Disk.left_since c.args.disk.now (IsCleared (g.D.Disk.may_leave c.args.disk.now)) (λ f left. inl (f, [], g.met.D.Disk.only_now tells c.args.disk.now f left, sym (append-nil f))) in
    let m1 = goes_on g.D.Disk.moment g.D.Disk.left_since c.args.disk.now c.args.disk.now c.cut.new.self (IsCleared (g.D.Disk.may_leave c.args.disk.now)) (g.D.Disk.may_leave c.cut.new.self) m0 c.cut.ensures.time first in
    let m2 = goes_on g.D.Disk.moment g.D.Disk.left_since c.args.disk.now c.cut.new.self c.sync.new.self (IsCleared (g.D.Disk.may_leave c.args.disk.now)) (g.D.Disk.may_leave c.sync.new.self) m1 c.sync.ensures.time (λ f left. first f (c.sync.ensures.crash f left)) in
    let m3 = goes_on g.D.Disk.moment g.D.Disk.left_since c.args.disk.now c.sync.new.self c.write_at.new.self (IsCleared (g.D.Disk.may_leave c.args.disk.now)) (g.D.Disk.may_leave c.write_at.new.self) m2 c.write_at.ensures.time second in
    let m4 = goes_on g.D.Disk.moment g.D.Disk.left_since c.args.disk.now c.write_at.new.self c.sync-2.new.self (IsCleared (g.D.Disk.may_leave c.args.disk.now)) (g.D.Disk.may_leave c.sync-2.new.self) m3 c.sync-2.ensures.time (λ f left. second f (c.sync-2.ensures.crash f left)) in
    m4)

pub returns-clause-may_leave : goal.returns-clause-may_leave
returns-clause-may_leave g c = if_some (g.D.Disk.seen c.args.disk.now) (λ _. (f : List ℕ) → g.D.Disk.may_leave c.sync-2.new.self f → IsCleared (g.D.Disk.may_leave c.args.disk.now) f) (λ file is.
    let first = after_cut (length file) (g.D.Disk.may_leave c.args.disk.now) (g.D.Disk.may_leave c.cut.new.self) (told _ file _ is c.cut.ensures.crash) in
    let is1 = told _ file _ is c.in_ok-cut.ensures.resized in
    let is2 = c.sync.ensures.seen ∙ is1 in
    let only = told _ _ _ is1 c.in_ok-sync.ensures.durable in
    let second = after_start _ (g.D.Disk.may_leave c.args.disk.now) (g.D.Disk.may_leave c.sync.new.self) (g.D.Disk.may_leave c.write_at.new.self) (omega (arith, ap length c.copy_from_slice.ensures.after, c.copy_from_slice.ensures.len, c.copy_from_slice.auto.self, length-append c.copy_from_slice.new.self (0 ∷ []))) only (told _ _ _ is2 c.write_at.ensures.crash) in
    (λ f left. second f (c.sync-2.ensures.crash f left)))

pub returns-clause-any_moment : goal.returns-clause-any_moment
returns-clause-any_moment g c = λ tells. if_some (g.D.Disk.seen c.args.disk.now) (λ _. LeavesOnly g.D.Disk.moment g.D.Disk.left_since c.args.disk.now c.sync-2.new.self (IsCleared (g.D.Disk.may_leave c.args.disk.now))) (λ file is.
    let first = after_cut (length file) (g.D.Disk.may_leave c.args.disk.now) (g.D.Disk.may_leave c.cut.new.self) (told _ file _ is c.cut.ensures.crash) in
    let is1 = told _ file _ is c.in_ok-cut.ensures.resized in
    let is2 = c.sync.ensures.seen ∙ is1 in
    let only = told _ _ _ is1 c.in_ok-sync.ensures.durable in
    let second = after_start _ (g.D.Disk.may_leave c.args.disk.now) (g.D.Disk.may_leave c.sync.new.self) (g.D.Disk.may_leave c.write_at.new.self) (omega (arith, ap length c.copy_from_slice.ensures.after, c.copy_from_slice.ensures.len, c.copy_from_slice.auto.self, length-append c.copy_from_slice.new.self (0 ∷ []))) only (told _ _ _ is2 c.write_at.ensures.crash) in
    let m0 = started g.D.Disk.moment g.D.Disk.left_since c.args.disk.now (IsCleared (g.D.Disk.may_leave c.args.disk.now)) (λ f left. inl (f, [], g.met.D.Disk.only_now tells c.args.disk.now f left, sym (append-nil f))) in
    let m1 = goes_on g.D.Disk.moment g.D.Disk.left_since c.args.disk.now c.args.disk.now c.cut.new.self (IsCleared (g.D.Disk.may_leave c.args.disk.now)) (g.D.Disk.may_leave c.cut.new.self) m0 c.cut.ensures.time first in
    let m2 = goes_on g.D.Disk.moment g.D.Disk.left_since c.args.disk.now c.cut.new.self c.sync.new.self (IsCleared (g.D.Disk.may_leave c.args.disk.now)) (g.D.Disk.may_leave c.sync.new.self) m1 c.sync.ensures.time (λ f left. first f (c.sync.ensures.crash f left)) in
    let m3 = goes_on g.D.Disk.moment g.D.Disk.left_since c.args.disk.now c.sync.new.self c.write_at.new.self (IsCleared (g.D.Disk.may_leave c.args.disk.now)) (g.D.Disk.may_leave c.write_at.new.self) m2 c.write_at.ensures.time second in
    let m4 = goes_on g.D.Disk.moment g.D.Disk.left_since c.args.disk.now c.write_at.new.self c.sync-2.new.self (IsCleared (g.D.Disk.may_leave c.args.disk.now)) (g.D.Disk.may_leave c.sync-2.new.self) m3 c.sync-2.ensures.time (λ f left. second f (c.sync-2.ensures.crash f left)) in
    m4)

pub returns-clause-formatted : goal.returns-clause-formatted
returns-clause-formatted g c = if_some (g.D.Disk.seen c.args.disk.now) (λ _. IfSome (g.D.Disk.seen c.sync-2.new.self) (LogIsAtRest c.args.head.now 9 (g.D.Disk.may_leave c.sync-2.new.self) [])) (λ file is.
    let is1 = told _ file _ is c.in_ok-cut.ensures.resized in
    let is2 = c.sync.ensures.seen ∙ is1 in
    let is3 = told _ _ _ is2 c.in_ok-write_at.ensures.written in
    let only = told _ _ _ is3 c.in_ok-sync-2.ensures.durable in
    subst (λ v. IfSome v (LogIsAtRest c.args.head.now 9 (g.D.Disk.may_leave c.sync-2.new.self) [])) (sym (c.sync-2.ensures.seen ∙ is3))
    (empty c.args.head.now _ (g.D.Disk.may_leave c.sync-2.new.self) (omega (arith, ap length c.copy_from_slice.ensures.after, c.copy_from_slice.ensures.len, c.copy_from_slice.auto.self)) (ap (λ (l : List ℕ). l ++ 0 ∷ []) c.copy_from_slice.ensures.after) only))
