use Rattle.std.proofs.Common.{◌≡◌, ◌≢◌, ℕ, ◌<◌, true, false, Option, Some, None, sym, ap, subst, ◌∙◌, arith}
use Rattle.pf_base.specs.Asks.{chunk_of}
use Rattle.pf_base.specs.declared.asks.Ask.{Ask}
use Rattle.pf_mount_errands.specs.Positions.{anchors_of}
use Rattle.pf_mount.specs.declared.stand.Handed.{Handed}
use Rattle.pf_mount.specs.declared.stand.Stand.{Stand}
use Rattle.pf_mount.specs.Mounts.{MountIs, anchor_hands, mount_asked, stand_of}
use Rattle.pf_mount.specs.Nexts.{is_busy, next_ask}
use Rattle.pf_mount.specs.Standing.{Awaits}
use Rattle.pf_mount.proofs.AwaitedAnswers.{handed_awaits}
use Rattle.pf_mount.proofs.PortAsks.{put_is_mount, put_mount, puts_ask, puts_held}
use Rattle.pf_mount.proofs.mount.Mount.anchor_ask.Goals as goal

-- an anchor's port is not that for file data
near : (m n : MountIs) (anchor : ℕ) → m ≡ n → anchor < anchors_of n.position → anchor < anchors_of m.position
near m n anchor same low = subst (λ (x : MountIs). anchor < anchors_of x.position) (sym same) low

no_last : (m : MountIs) (anchor : ℕ) → anchor < anchors_of m.position → anchor ≢ anchors_of m.position
no_last m anchor low is = omega (arith, low, is)

-- what is handed out where the mount stands
handed_by : (m n : MountIs) (s : Stand) (port : ℕ) (h : Handed) → m ≡ n → s ≡ stand_of n → h ≡ anchor_hands s m.task.work port → h ≡ anchor_hands (stand_of m) m.task.work port
handed_by m n s port h same s_is is = is ∙ ap (λ (x : Stand). anchor_hands x m.task.work port) (s_is ∙ ap stand_of (sym same))

pub returns-then-is_busy-clause-ok : goal.returns-then-is_busy-clause-ok
returns-then-is_busy-clause-ok c =
    let m : MountIs = record { files = c.self.inside.files; upto = c.self.inside.upto; position = c.self.inside.position; errands = c.self.inside.errands; task = c.self.inside.task } in
    let apart = no_last m c.args.anchor (near m c.args.self.now c.args.anchor c.self.view_is c.requires) in
    let made = handed_by m c.args.self.now c.stand.result c.args.anchor c.in_ok-stand.field-0 c.self.view_is c.stand.ensures.stand c.in_ok-stand.ensures.handed in
    let held : is_busy c.args.busy.now (chunk_of c.in-Some.ask) ≡ true = ap (is_busy c.args.busy.now) (sym c.chunk.ensures) ∙ sym c.is_busy.ensures ∙ c.if-is_busy.true in
    let P : MountIs → Type 0 = λ x. ◌≡◌ {A = Option Ask} None (next_ask x c.args.busy.now c.args.anchor) in
    subst P c.self.view_is (puts_held m c.args.busy.now c.args.anchor apart c.in-Some.ask (sym (ap (λ (x : Handed). x.ask) made) ∙ c.in-Some.is) held)

pub invariant_of-self : goal.invariant_of-self
invariant_of-self c =
    let m : MountIs = record { files = c.self.inside.files; upto = c.self.inside.upto; position = c.self.inside.position; errands = c.self.inside.errands; task = c.self.inside.task } in
    let made = handed_by m c.args.self.now c.stand.result c.args.anchor c.in_ok-stand.field-0 c.self.view_is c.stand.ensures.stand c.in_ok-stand.ensures.handed in
    put_is_mount m c.args.anchor c.self.invariant c.in_ok-stand.field-0 made

pub returns-clause-ok : goal.returns-clause-ok
returns-clause-ok c =
    let m : MountIs = record { files = c.self.inside.files; upto = c.self.inside.upto; position = c.self.inside.position; errands = c.self.inside.errands; task = c.self.inside.task } in
    let apart = no_last m c.args.anchor (near m c.args.self.now c.args.anchor c.self.view_is c.requires) in
    let made = handed_by m c.args.self.now c.stand.result c.args.anchor c.in_ok-stand.field-0 c.self.view_is c.stand.ensures.stand c.in_ok-stand.ensures.handed in
    let held : is_busy c.args.busy.now (chunk_of c.in-Some.ask) ≡ false = ap (is_busy c.args.busy.now) (sym c.chunk.ensures) ∙ sym c.is_busy.ensures ∙ c.if-is_busy.false in
    let P : MountIs → Type 0 = λ x. Some c.in-Some.ask ≡ next_ask x c.args.busy.now c.args.anchor in
    subst P c.self.view_is (puts_ask m c.args.busy.now c.args.anchor apart c.in-Some.ask (sym (ap (λ (x : Handed). x.ask) made) ∙ c.in-Some.is) held)

pub returns-clause-asked : goal.returns-clause-asked
returns-clause-asked c =
    let m : MountIs = record { files = c.self.inside.files; upto = c.self.inside.upto; position = c.self.inside.position; errands = c.self.inside.errands; task = c.self.inside.task } in
    let apart = no_last m c.args.anchor (near m c.args.self.now c.args.anchor c.self.view_is c.requires) in
    let made = handed_by m c.args.self.now c.stand.result c.args.anchor c.in_ok-stand.field-0 c.self.view_is c.stand.ensures.stand c.in_ok-stand.ensures.handed in
    put_mount m c.args.busy.now c.args.anchor apart c.in_ok-stand.field-0 made ∙ ap (λ (x : MountIs). mount_asked x c.args.anchor) c.self.view_is

pub returns-clause-awaits : goal.returns-clause-awaits
returns-clause-awaits c =
    let m : MountIs = record { files = c.self.inside.files; upto = c.self.inside.upto; position = c.self.inside.position; errands = c.self.inside.errands; task = c.self.inside.task } in
    let made = handed_by m c.args.self.now c.stand.result c.args.anchor c.in_ok-stand.field-0 c.self.view_is c.stand.ensures.stand c.in_ok-stand.ensures.handed in
    let P : Option Ask → Type 0 = λ o. Awaits (record m { position = c.in_ok-stand.field-0.stand.position; errands = c.in_ok-stand.field-0.stand.errands }) c.args.anchor o in
    subst P c.in-Some.is (handed_awaits m c.args.anchor (stand_of m) (near m c.args.self.now c.args.anchor c.self.view_is c.requires) m.task.work c.in_ok-stand.field-0 c.self.invariant.over made)
