use Rattle.std.proofs.Common.{inl, inr, ⊎_elim, ℕ, List, Option, refl, sym, subst, ap, ◌∙◌, is_some}
use Rattle.std.specs.List.{slice_index}
use Rattle.std.proofs.lemmas.List.Elements.{All-nil}
use Rattle.pf_chunklog.proofs.Steps.{told}
use Rattle.pf_image.specs.Halves.{of_half, other}
use Rattle.pf_image.specs.Recovery.{IsChange}
use Rattle.pf_image.specs.Current.{IsBegun, IsCurrent}
use Rattle.pf_image.specs.declared.halves.Half.{Half}
use Rattle.pf_image.specs.declared.halves.Half.TheVariants.{Zero, One}
use Rattle.pf_image.proofs.LoadedHalves.{begun_ready}
use Rattle.pf_image.proofs.Logs as logs
use Rattle.pf_image.proofs.pair.Pair.save.Goals as goal

pub returns-in_err-begin-in-Zero-clause-doubt : goal.returns-in_err-begin-in-Zero-clause-doubt
returns-in_err-begin-in-Zero-clause-doubt g c = λ raw records body_is next was_whole a b left_a left_b.
    let whole = subst (λ (h : Half). IsCurrent g.D.Disk.seen g.D.Disk.may_leave c.args.self.now.head h (of_half h c.args.self.now.zero c.args.self.now.one) (of_half (other h) c.args.self.now.zero c.args.self.now.one) records) c.in-Zero.is was_whole in
    let spare = logs.told_file (g.D.Disk.seen c.args.self.now.one.disk) whole.told in
    let begun = subst (λ (h : List ℕ). IsBegun (g.D.Disk.may_leave c.args.self.now.one.disk) h raw b) c.head-head.ensures (told _ spare.0 _ spare.1 (c.begin.ensures.may_leave raw body_is) b left_b) in
    ⊎_elim (λ before. inl (record { found = (Zero, before.taken); format_is = before.format_is })) (λ after. inr (record { found = (One, record { recoverable = after.taken; older = after.older }); format_is = after.second })) (logs.in_save g.D.Disk.seen g.D.Disk.may_leave c.args.self.now.head Zero c.args.self.now.zero c.args.self.now.one records whole raw (slice_index (of_half c.args.self.now.current c.args.self.now.zero c.args.self.now.one).head 4) (sym (ap (λ (h : Half). slice_index (of_half h c.args.self.now.zero c.args.self.now.one).head 4) c.in-Zero.is)) next a b left_a begun)

pub returns-in_err-begin-in-Zero-clause-any_moment : goal.returns-in_err-begin-in-Zero-clause-any_moment
returns-in_err-begin-in-Zero-clause-any_moment g c = λ tells raw records body_is next was_whole a b left_a left_b.
    let whole = subst (λ (h : Half). IsCurrent g.D.Disk.seen g.D.Disk.may_leave c.args.self.now.head h (of_half h c.args.self.now.zero c.args.self.now.one) (of_half (other h) c.args.self.now.zero c.args.self.now.one) records) c.in-Zero.is was_whole in
    let spare = logs.told_file (g.D.Disk.seen c.args.self.now.one.disk) whole.told in
    let begun = subst (λ (h : List ℕ). IsBegun (g.D.Disk.may_leave c.args.self.now.one.disk) h raw b) c.head-head.ensures ((told _ spare.0 _ spare.1 (c.begin.ensures.any_moment tells raw body_is)).each b left_b) in
    ⊎_elim (λ before. inl (record { found = (Zero, before.taken); format_is = before.format_is })) (λ after. inr (record { found = (One, record { recoverable = after.taken; older = after.older }); format_is = after.second })) (logs.in_save g.D.Disk.seen g.D.Disk.may_leave c.args.self.now.head Zero c.args.self.now.zero c.args.self.now.one records whole raw (slice_index (of_half c.args.self.now.current c.args.self.now.zero c.args.self.now.one).head 4) (sym (ap (λ (h : Half). slice_index (of_half h c.args.self.now.zero c.args.self.now.one).head 4) c.in-Zero.is)) next a b (g.met.D.Disk.only_now tells c.args.self.now.zero.disk a left_a) begun)

pub returns-in_ok-begin-in-Zero-clause-doubt : goal.returns-in_ok-begin-in-Zero-clause-doubt
returns-in_ok-begin-in-Zero-clause-doubt g c = λ raw records body_is next was_whole a b left_a left_b.
    let whole = subst (λ (h : Half). IsCurrent g.D.Disk.seen g.D.Disk.may_leave c.args.self.now.head h (of_half h c.args.self.now.zero c.args.self.now.one) (of_half (other h) c.args.self.now.zero c.args.self.now.one) records) c.in-Zero.is was_whole in
    let spare = logs.told_file (g.D.Disk.seen c.args.self.now.one.disk) whole.told in
    let begun = subst (λ (h : List ℕ). IsBegun (g.D.Disk.may_leave c.args.self.now.one.disk) h raw b) c.head-head.ensures (told _ spare.0 _ spare.1 (c.begin.ensures.may_leave raw body_is) b left_b) in
    ⊎_elim (λ before. inl (record { found = (Zero, before.taken); format_is = before.format_is })) (λ after. inr (record { found = (One, record { recoverable = after.taken; older = after.older }); format_is = after.second })) (logs.in_save g.D.Disk.seen g.D.Disk.may_leave c.args.self.now.head Zero c.args.self.now.zero c.args.self.now.one records whole raw (slice_index (of_half c.args.self.now.current c.args.self.now.zero c.args.self.now.one).head 4) (sym (ap (λ (h : Half). slice_index (of_half h c.args.self.now.zero c.args.self.now.one).head 4) c.in-Zero.is)) next a b left_a begun)

pub returns-in_ok-begin-in-Zero-clause-any_moment : goal.returns-in_ok-begin-in-Zero-clause-any_moment
returns-in_ok-begin-in-Zero-clause-any_moment g c = λ tells raw records body_is next was_whole a b left_a left_b.
    let whole = subst (λ (h : Half). IsCurrent g.D.Disk.seen g.D.Disk.may_leave c.args.self.now.head h (of_half h c.args.self.now.zero c.args.self.now.one) (of_half (other h) c.args.self.now.zero c.args.self.now.one) records) c.in-Zero.is was_whole in
    let spare = logs.told_file (g.D.Disk.seen c.args.self.now.one.disk) whole.told in
    let begun = subst (λ (h : List ℕ). IsBegun (g.D.Disk.may_leave c.args.self.now.one.disk) h raw b) c.head-head.ensures ((told _ spare.0 _ spare.1 (c.begin.ensures.any_moment tells raw body_is)).each b left_b) in
    ⊎_elim (λ before. inl (record { found = (Zero, before.taken); format_is = before.format_is })) (λ after. inr (record { found = (One, record { recoverable = after.taken; older = after.older }); format_is = after.second })) (logs.in_save g.D.Disk.seen g.D.Disk.may_leave c.args.self.now.head Zero c.args.self.now.zero c.args.self.now.one records whole raw (slice_index (of_half c.args.self.now.current c.args.self.now.zero c.args.self.now.one).head 4) (sym (ap (λ (h : Half). slice_index (of_half h c.args.self.now.zero c.args.self.now.one).head 4) c.in-Zero.is)) next a b (g.met.D.Disk.only_now tells c.args.self.now.zero.disk a left_a) begun)

pub returns-in_ok-begin-in-Zero-clause-saved : goal.returns-in_ok-begin-in-Zero-clause-saved
returns-in_ok-begin-in-Zero-clause-saved g c = λ raw records body_is next was_whole.
    let whole = subst (λ (h : Half). IsCurrent g.D.Disk.seen g.D.Disk.may_leave c.args.self.now.head h (of_half h c.args.self.now.zero c.args.self.now.one) (of_half (other h) c.args.self.now.zero c.args.self.now.one) records) c.in-Zero.is was_whole in
    let spare = logs.told_file (g.D.Disk.seen c.args.self.now.one.disk) whole.told in
    logs.begun g.D.Disk.seen g.D.Disk.may_leave c.args.self.now.head One c.begin.new.log c.args.self.now.zero raw 2 c.head-head.result (inr refl) (next.image, All-nil (IsChange 2)) c.head-head.ensures c.in_ok-begin-in-Zero.ensures.head (c.begin.ensures.told ∙ whole.told)
    (ap (λ (o : Option (List ℕ)). is_some o) whole.is_seen) (told _ spare.0 _ spare.1 (c.in_ok-begin-in-Zero.ensures.begun raw body_is)) (λ file left. logs.saved_file g.D.Disk.seen g.D.Disk.may_leave c.args.self.now.head Zero c.args.self.now.zero c.args.self.now.one records whole raw _ refl file next left)

pub returns-in_err-begin-in-One-clause-doubt : goal.returns-in_err-begin-in-One-clause-doubt
returns-in_err-begin-in-One-clause-doubt g c = λ raw records body_is next was_whole a b left_a left_b.
    let whole = subst (λ (h : Half). IsCurrent g.D.Disk.seen g.D.Disk.may_leave c.args.self.now.head h (of_half h c.args.self.now.zero c.args.self.now.one) (of_half (other h) c.args.self.now.zero c.args.self.now.one) records) c.in-One.is was_whole in
    let spare = logs.told_file (g.D.Disk.seen c.args.self.now.zero.disk) whole.told in
    let begun = subst (λ (h : List ℕ). IsBegun (g.D.Disk.may_leave c.args.self.now.zero.disk) h raw a) c.head-head-in-One.ensures (told _ spare.0 _ spare.1 (c.begin-in-One.ensures.may_leave raw body_is) a left_a) in
    ⊎_elim (λ before. inl (record { found = (One, before.taken); format_is = before.format_is })) (λ after. inr (record { found = (Zero, record { recoverable = after.taken; older = after.older }); format_is = after.second })) (logs.in_save g.D.Disk.seen g.D.Disk.may_leave c.args.self.now.head One c.args.self.now.one c.args.self.now.zero records whole raw (slice_index (of_half c.args.self.now.current c.args.self.now.zero c.args.self.now.one).head 4) (sym (ap (λ (h : Half). slice_index (of_half h c.args.self.now.zero c.args.self.now.one).head 4) c.in-One.is)) next b a left_b begun)

pub returns-in_err-begin-in-One-clause-any_moment : goal.returns-in_err-begin-in-One-clause-any_moment
returns-in_err-begin-in-One-clause-any_moment g c = λ tells raw records body_is next was_whole a b left_a left_b.
    let whole = subst (λ (h : Half). IsCurrent g.D.Disk.seen g.D.Disk.may_leave c.args.self.now.head h (of_half h c.args.self.now.zero c.args.self.now.one) (of_half (other h) c.args.self.now.zero c.args.self.now.one) records) c.in-One.is was_whole in
    let spare = logs.told_file (g.D.Disk.seen c.args.self.now.zero.disk) whole.told in
    let begun = subst (λ (h : List ℕ). IsBegun (g.D.Disk.may_leave c.args.self.now.zero.disk) h raw a) c.head-head-in-One.ensures ((told _ spare.0 _ spare.1 (c.begin-in-One.ensures.any_moment tells raw body_is)).each a left_a) in
    ⊎_elim (λ before. inl (record { found = (One, before.taken); format_is = before.format_is })) (λ after. inr (record { found = (Zero, record { recoverable = after.taken; older = after.older }); format_is = after.second })) (logs.in_save g.D.Disk.seen g.D.Disk.may_leave c.args.self.now.head One c.args.self.now.one c.args.self.now.zero records whole raw (slice_index (of_half c.args.self.now.current c.args.self.now.zero c.args.self.now.one).head 4) (sym (ap (λ (h : Half). slice_index (of_half h c.args.self.now.zero c.args.self.now.one).head 4) c.in-One.is)) next b a (g.met.D.Disk.only_now tells c.args.self.now.one.disk b left_b) begun)

pub returns-in_ok-begin-in-One-clause-doubt : goal.returns-in_ok-begin-in-One-clause-doubt
returns-in_ok-begin-in-One-clause-doubt g c = λ raw records body_is next was_whole a b left_a left_b.
    let whole = subst (λ (h : Half). IsCurrent g.D.Disk.seen g.D.Disk.may_leave c.args.self.now.head h (of_half h c.args.self.now.zero c.args.self.now.one) (of_half (other h) c.args.self.now.zero c.args.self.now.one) records) c.in-One.is was_whole in
    let spare = logs.told_file (g.D.Disk.seen c.args.self.now.zero.disk) whole.told in
    let begun = subst (λ (h : List ℕ). IsBegun (g.D.Disk.may_leave c.args.self.now.zero.disk) h raw a) c.head-head-in-One.ensures (told _ spare.0 _ spare.1 (c.begin-in-One.ensures.may_leave raw body_is) a left_a) in
    ⊎_elim (λ before. inl (record { found = (One, before.taken); format_is = before.format_is })) (λ after. inr (record { found = (Zero, record { recoverable = after.taken; older = after.older }); format_is = after.second })) (logs.in_save g.D.Disk.seen g.D.Disk.may_leave c.args.self.now.head One c.args.self.now.one c.args.self.now.zero records whole raw (slice_index (of_half c.args.self.now.current c.args.self.now.zero c.args.self.now.one).head 4) (sym (ap (λ (h : Half). slice_index (of_half h c.args.self.now.zero c.args.self.now.one).head 4) c.in-One.is)) next b a left_b begun)

pub returns-in_ok-begin-in-One-clause-any_moment : goal.returns-in_ok-begin-in-One-clause-any_moment
returns-in_ok-begin-in-One-clause-any_moment g c = λ tells raw records body_is next was_whole a b left_a left_b.
    let whole = subst (λ (h : Half). IsCurrent g.D.Disk.seen g.D.Disk.may_leave c.args.self.now.head h (of_half h c.args.self.now.zero c.args.self.now.one) (of_half (other h) c.args.self.now.zero c.args.self.now.one) records) c.in-One.is was_whole in
    let spare = logs.told_file (g.D.Disk.seen c.args.self.now.zero.disk) whole.told in
    let begun = subst (λ (h : List ℕ). IsBegun (g.D.Disk.may_leave c.args.self.now.zero.disk) h raw a) c.head-head-in-One.ensures ((told _ spare.0 _ spare.1 (c.begin-in-One.ensures.any_moment tells raw body_is)).each a left_a) in
    ⊎_elim (λ before. inl (record { found = (One, before.taken); format_is = before.format_is })) (λ after. inr (record { found = (Zero, record { recoverable = after.taken; older = after.older }); format_is = after.second })) (logs.in_save g.D.Disk.seen g.D.Disk.may_leave c.args.self.now.head One c.args.self.now.one c.args.self.now.zero records whole raw (slice_index (of_half c.args.self.now.current c.args.self.now.zero c.args.self.now.one).head 4) (sym (ap (λ (h : Half). slice_index (of_half h c.args.self.now.zero c.args.self.now.one).head 4) c.in-One.is)) next b a (g.met.D.Disk.only_now tells c.args.self.now.one.disk b left_b) begun)

pub returns-in_ok-begin-in-One-clause-saved : goal.returns-in_ok-begin-in-One-clause-saved
returns-in_ok-begin-in-One-clause-saved g c = λ raw records body_is next was_whole.
    let whole = subst (λ (h : Half). IsCurrent g.D.Disk.seen g.D.Disk.may_leave c.args.self.now.head h (of_half h c.args.self.now.zero c.args.self.now.one) (of_half (other h) c.args.self.now.zero c.args.self.now.one) records) c.in-One.is was_whole in
    let spare = logs.told_file (g.D.Disk.seen c.args.self.now.zero.disk) whole.told in
    logs.begun g.D.Disk.seen g.D.Disk.may_leave c.args.self.now.head Zero c.begin-in-One.new.log c.args.self.now.one raw 2 c.head-head-in-One.result (inr refl) (next.image, All-nil (IsChange 2)) c.head-head-in-One.ensures c.in_ok-begin-in-One.ensures.head (c.begin-in-One.ensures.told ∙ whole.told)
    (ap (λ (o : Option (List ℕ)). is_some o) whole.is_seen) (told _ spare.0 _ spare.1 (c.in_ok-begin-in-One.ensures.begun raw body_is)) (λ file left. logs.saved_file g.D.Disk.seen g.D.Disk.may_leave c.args.self.now.head One c.args.self.now.one c.args.self.now.zero records whole raw _ refl file next left)

pub returns-in_ok-begin-in-Zero-clause-ready : goal.returns-in_ok-begin-in-Zero-clause-ready
returns-in_ok-begin-in-Zero-clause-ready g c =
    begun_ready g.D.Disk.seen g.D.Disk.may_leave c.args.self.now.one.disk c.begin.new.log c.head-head.result c.requires.body.0 c.begin.ensures.told c.in_ok-begin-in-Zero.ensures.head (c.in_ok-begin-in-Zero.ensures.begun c.requires.body.0 c.requires.body.1)

pub returns-in_ok-begin-in-One-clause-ready : goal.returns-in_ok-begin-in-One-clause-ready
returns-in_ok-begin-in-One-clause-ready g c =
    begun_ready g.D.Disk.seen g.D.Disk.may_leave c.args.self.now.zero.disk c.begin-in-One.new.log c.head-head-in-One.result c.requires.body.0 c.begin-in-One.ensures.told c.in_ok-begin-in-One.ensures.head (c.in_ok-begin-in-One.ensures.begun c.requires.body.0 c.requires.body.1)
