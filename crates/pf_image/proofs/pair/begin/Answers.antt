use Rattle.std.proofs.Common.{inr, ℕ, List, [], ◌∷◌, IfSome, sym, subst, ◌∙◌}
use Rattle.pf_chunklog.specs.Logs.{BeforeOrAfter, LogIsAtRest, IsCleared, LeavesOnly}
use Rattle.pf_chunklog.proofs.Steps.{if_some, told, was_told}
use Rattle.pf_image.specs.Current.{IsBegun}
use Rattle.pf_image.proofs.Times.{runs_on}
use Rattle.pf_image.proofs.pair.begin.Goals as goal

pub returns-in-Ok-clause-begun : goal.returns-in-Ok-clause-begun
returns-in-Ok-clause-begun g c = λ raw body_is. if_some (g.D.Disk.seen c.args.log.now.disk) (λ _. IfSome (g.D.Disk.seen c.append.new.self.disk) (LogIsAtRest c.args.head c.append.new.self.used (g.D.Disk.may_leave c.append.new.self.disk) (raw ∷ []))) (λ file is.
    let mid_is = was_told (g.D.Disk.seen c.clear.new.self.disk) (g.D.Disk.seen c.args.log.now.disk) file (sym c.clear.ensures.told) is in
    let rest = subst (λ (h : List ℕ). LogIsAtRest h c.clear.new.self.used (g.D.Disk.may_leave c.clear.new.self.disk) [] mid_is.0) (sym c.in_ok-clear.ensures.ok.0) (told _ mid_is.0 _ mid_is.1 (told _ file _ is c.in_ok-clear.ensures.cleared)) in
    subst (λ (h : List ℕ). IfSome (g.D.Disk.seen c.append.new.self.disk) (LogIsAtRest h c.append.new.self.used (g.D.Disk.may_leave c.append.new.self.disk) (raw ∷ []))) (c.append.ensures.head ∙ c.in_ok-clear.ensures.ok.0) (told _ mid_is.0 _ mid_is.1 c.in-Ok.ensures.acknowledged raw [] body_is rest))

pub returns-in-Ok-clause-may_leave : goal.returns-in-Ok-clause-may_leave
returns-in-Ok-clause-may_leave g c = λ raw body_is. if_some (g.D.Disk.seen c.args.log.now.disk) (λ _. (f : List ℕ) → g.D.Disk.may_leave c.append.new.self.disk f → IsBegun (g.D.Disk.may_leave c.args.log.now.disk) c.args.head raw f) (λ file is f left.
    let mid_is = was_told (g.D.Disk.seen c.clear.new.self.disk) (g.D.Disk.seen c.args.log.now.disk) file (sym c.clear.ensures.told) is in
    let rest = subst (λ (h : List ℕ). LogIsAtRest h c.clear.new.self.used (g.D.Disk.may_leave c.clear.new.self.disk) [] mid_is.0) (sym c.in_ok-clear.ensures.ok.0) (told _ mid_is.0 _ mid_is.1 (told _ file _ is c.in_ok-clear.ensures.cleared)) in
    inr (subst (λ (h : List ℕ). BeforeOrAfter h [] raw f) c.in_ok-clear.ensures.ok.0 (told _ mid_is.0 _ mid_is.1 c.append.ensures.may_leave raw [] body_is rest f left)))

pub returns-in-Ok-clause-any_moment : goal.returns-in-Ok-clause-any_moment
returns-in-Ok-clause-any_moment g c = λ tells raw body_is. if_some (g.D.Disk.seen c.args.log.now.disk) (λ _. LeavesOnly g.D.Disk.moment g.D.Disk.left_since c.args.log.now.disk c.append.new.self.disk (IsBegun (g.D.Disk.may_leave c.args.log.now.disk) c.args.head raw)) (λ file is.
    let mid_is = was_told (g.D.Disk.seen c.clear.new.self.disk) (g.D.Disk.seen c.args.log.now.disk) file (sym c.clear.ensures.told) is in
    let rest = subst (λ (h : List ℕ). LogIsAtRest h c.clear.new.self.used (g.D.Disk.may_leave c.clear.new.self.disk) [] mid_is.0) (sym c.in_ok-clear.ensures.ok.0) (told _ mid_is.0 _ mid_is.1 (told _ file _ is c.in_ok-clear.ensures.cleared)) in
    let then = subst (λ (h : List ℕ). LeavesOnly g.D.Disk.moment g.D.Disk.left_since c.clear.new.self.disk c.append.new.self.disk (BeforeOrAfter h [] raw)) c.in_ok-clear.ensures.ok.0 (told _ mid_is.0 _ mid_is.1 (c.append.ensures.any_moment tells) raw [] body_is rest) in
    runs_on g.D.Disk.moment g.D.Disk.left_since c.args.log.now.disk c.clear.new.self.disk c.append.new.self.disk (IsCleared (g.D.Disk.may_leave c.args.log.now.disk)) (BeforeOrAfter c.args.head [] raw) (told _ file _ is (c.clear.ensures.any_moment tells)) then)

pub returns-in-Err-clause-may_leave : goal.returns-in-Err-clause-may_leave
returns-in-Err-clause-may_leave g c = λ raw body_is. if_some (g.D.Disk.seen c.args.log.now.disk) (λ _. (f : List ℕ) → g.D.Disk.may_leave c.append.new.self.disk f → IsBegun (g.D.Disk.may_leave c.args.log.now.disk) c.args.head raw f) (λ file is f left.
    let mid_is = was_told (g.D.Disk.seen c.clear.new.self.disk) (g.D.Disk.seen c.args.log.now.disk) file (sym c.clear.ensures.told) is in
    let rest = subst (λ (h : List ℕ). LogIsAtRest h c.clear.new.self.used (g.D.Disk.may_leave c.clear.new.self.disk) [] mid_is.0) (sym c.in_ok-clear.ensures.ok.0) (told _ mid_is.0 _ mid_is.1 (told _ file _ is c.in_ok-clear.ensures.cleared)) in
    inr (subst (λ (h : List ℕ). BeforeOrAfter h [] raw f) c.in_ok-clear.ensures.ok.0 (told _ mid_is.0 _ mid_is.1 c.append.ensures.may_leave raw [] body_is rest f left)))

pub returns-in-Err-clause-any_moment : goal.returns-in-Err-clause-any_moment
returns-in-Err-clause-any_moment g c = λ tells raw body_is. if_some (g.D.Disk.seen c.args.log.now.disk) (λ _. LeavesOnly g.D.Disk.moment g.D.Disk.left_since c.args.log.now.disk c.append.new.self.disk (IsBegun (g.D.Disk.may_leave c.args.log.now.disk) c.args.head raw)) (λ file is.
    let mid_is = was_told (g.D.Disk.seen c.clear.new.self.disk) (g.D.Disk.seen c.args.log.now.disk) file (sym c.clear.ensures.told) is in
    let rest = subst (λ (h : List ℕ). LogIsAtRest h c.clear.new.self.used (g.D.Disk.may_leave c.clear.new.self.disk) [] mid_is.0) (sym c.in_ok-clear.ensures.ok.0) (told _ mid_is.0 _ mid_is.1 (told _ file _ is c.in_ok-clear.ensures.cleared)) in
    let then = subst (λ (h : List ℕ). LeavesOnly g.D.Disk.moment g.D.Disk.left_since c.clear.new.self.disk c.append.new.self.disk (BeforeOrAfter h [] raw)) c.in_ok-clear.ensures.ok.0 (told _ mid_is.0 _ mid_is.1 (c.append.ensures.any_moment tells) raw [] body_is rest) in
    runs_on g.D.Disk.moment g.D.Disk.left_since c.args.log.now.disk c.clear.new.self.disk c.append.new.self.disk (IsCleared (g.D.Disk.may_leave c.args.log.now.disk)) (BeforeOrAfter c.args.head [] raw) (told _ file _ is (c.clear.ensures.any_moment tells)) then)
