use Rattle.std.proofs.Common.{ℕ, List, inl, inr, ⊎_elim, [], ◌∷◌, ◌++◌, IfSome, refl, sym, subst, ap}
use Rattle.std.specs.List.{slice_index}
use Rattle.std.proofs.lemmas.Result.{IfOk-at_ok}
use Rattle.pf_chunklog.specs.Records.{Raw}
use Rattle.pf_chunklog.specs.Logs.{LogIsAtRest}
use Rattle.pf_chunklog.proofs.Steps.{if_ok, if_some, told, was_told}
use Rattle.pf_image.specs.Halves.{of_half, other}
use Rattle.pf_image.specs.Recovery.{IsChange}
use Rattle.pf_image.specs.Current.{IsCurrent, LogIsReady}
use Rattle.pf_image.specs.declared.halves.Half.{Half}
use Rattle.pf_image.specs.declared.halves.Half.TheVariants.{Zero, One}
use Rattle.pf_image.proofs.Logs as logs
use Rattle.pf_image.proofs.pair.Pair.append.Goals as goal

pub returns-in-Zero-clause-acknowledged : goal.returns-in-Zero-clause-acknowledged
returns-in-Zero-clause-acknowledged g c = λ raw records body_is was_change was_whole.
    let whole = subst (λ (h : Half). IsCurrent g.D.Disk.seen g.D.Disk.may_leave c.args.self.now.head h (of_half h c.args.self.now.zero c.args.self.now.one) (of_half (other h) c.args.self.now.zero c.args.self.now.one) records) c.in-Zero.is was_whole in
    let change = subst (λ (h : Half). IsChange (slice_index (of_half h c.args.self.now.zero c.args.self.now.one).head 4) raw) c.in-Zero.is was_change in
    if_ok c.append.result _ (λ done ok.
    let now = logs.appended g.D.Disk.seen g.D.Disk.may_leave c.args.self.now.head Zero c.args.self.now.zero c.args.self.now.one records whole raw _ refl c.append.new.self change c.append.ensures.head c.append.ensures.told
    (IfOk-at_ok (λ _. IfSome (g.D.Disk.seen c.append.new.self.disk) (LogIsAtRest c.append.new.self.head c.append.new.self.used (g.D.Disk.may_leave c.append.new.self.disk) (records ++ raw ∷ []))) ok
    (told _ whole.file _ whole.is_seen c.append.ensures.acknowledged raw records body_is whole.rest)) in
    subst (λ (h : Half). IsCurrent g.D.Disk.seen g.D.Disk.may_leave c.args.self.now.head h (of_half h c.append.new.self c.args.self.now.one) (of_half (other h) c.append.new.self c.args.self.now.one) (records ++ raw ∷ [])) (sym c.in-Zero.is) now)

pub returns-in-Zero-clause-doubt : goal.returns-in-Zero-clause-doubt
returns-in-Zero-clause-doubt g c = λ raw records body_is was_change was_whole a b left_a left_b.
    let whole = subst (λ (h : Half). IsCurrent g.D.Disk.seen g.D.Disk.may_leave c.args.self.now.head h (of_half h c.args.self.now.zero c.args.self.now.one) (of_half (other h) c.args.self.now.zero c.args.self.now.one) records) c.in-Zero.is was_whole in
    let change = subst (λ (h : Half). IsChange (slice_index (of_half h c.args.self.now.zero c.args.self.now.one).head 4) raw) c.in-Zero.is was_change in
    ⊎_elim (λ before. inl (record { found = (Zero, before.taken); format_is = before.format_is })) (λ after. inr (record { found = (Zero, after.taken); format_is = after.format_is }))
    (logs.in_append g.D.Disk.seen g.D.Disk.may_leave c.args.self.now.head Zero c.args.self.now.zero c.args.self.now.one records whole raw (slice_index (of_half c.args.self.now.current c.args.self.now.zero c.args.self.now.one).head 4) (sym (ap (λ (h : Half). slice_index (of_half h c.args.self.now.zero c.args.self.now.one).head 4) c.in-Zero.is)) change a b (told _ whole.file _ whole.is_seen c.append.ensures.may_leave raw records body_is whole.rest a left_a) left_b)

pub returns-in-Zero-clause-any_moment : goal.returns-in-Zero-clause-any_moment
returns-in-Zero-clause-any_moment g c = λ tells raw records body_is was_change was_whole a b left_a left_b.
    let whole = subst (λ (h : Half). IsCurrent g.D.Disk.seen g.D.Disk.may_leave c.args.self.now.head h (of_half h c.args.self.now.zero c.args.self.now.one) (of_half (other h) c.args.self.now.zero c.args.self.now.one) records) c.in-Zero.is was_whole in
    let change = subst (λ (h : Half). IsChange (slice_index (of_half h c.args.self.now.zero c.args.self.now.one).head 4) raw) c.in-Zero.is was_change in
    ⊎_elim (λ before. inl (record { found = (Zero, before.taken); format_is = before.format_is })) (λ after. inr (record { found = (Zero, after.taken); format_is = after.format_is }))
    (logs.in_append g.D.Disk.seen g.D.Disk.may_leave c.args.self.now.head Zero c.args.self.now.zero c.args.self.now.one records whole raw (slice_index (of_half c.args.self.now.current c.args.self.now.zero c.args.self.now.one).head 4) (sym (ap (λ (h : Half). slice_index (of_half h c.args.self.now.zero c.args.self.now.one).head 4) c.in-Zero.is)) change a b ((told _ whole.file _ whole.is_seen (c.append.ensures.any_moment tells) raw records body_is whole.rest).each a left_a) (g.met.D.Disk.only_now tells c.args.self.now.one.disk b left_b))

pub returns-in-One-clause-acknowledged : goal.returns-in-One-clause-acknowledged
returns-in-One-clause-acknowledged g c = λ raw records body_is was_change was_whole.
    let whole = subst (λ (h : Half). IsCurrent g.D.Disk.seen g.D.Disk.may_leave c.args.self.now.head h (of_half h c.args.self.now.zero c.args.self.now.one) (of_half (other h) c.args.self.now.zero c.args.self.now.one) records) c.in-One.is was_whole in
    let change = subst (λ (h : Half). IsChange (slice_index (of_half h c.args.self.now.zero c.args.self.now.one).head 4) raw) c.in-One.is was_change in
    if_ok c.append-in-One.result _ (λ done ok.
    let now = logs.appended g.D.Disk.seen g.D.Disk.may_leave c.args.self.now.head One c.args.self.now.one c.args.self.now.zero records whole raw _ refl c.append-in-One.new.self change c.append-in-One.ensures.head c.append-in-One.ensures.told
    (IfOk-at_ok (λ _. IfSome (g.D.Disk.seen c.append-in-One.new.self.disk) (LogIsAtRest c.append-in-One.new.self.head c.append-in-One.new.self.used (g.D.Disk.may_leave c.append-in-One.new.self.disk) (records ++ raw ∷ []))) ok
    (told _ whole.file _ whole.is_seen c.append-in-One.ensures.acknowledged raw records body_is whole.rest)) in
    subst (λ (h : Half). IsCurrent g.D.Disk.seen g.D.Disk.may_leave c.args.self.now.head h (of_half h c.args.self.now.zero c.append-in-One.new.self) (of_half (other h) c.args.self.now.zero c.append-in-One.new.self) (records ++ raw ∷ [])) (sym c.in-One.is) now)

pub returns-in-One-clause-doubt : goal.returns-in-One-clause-doubt
returns-in-One-clause-doubt g c = λ raw records body_is was_change was_whole a b left_a left_b.
    let whole = subst (λ (h : Half). IsCurrent g.D.Disk.seen g.D.Disk.may_leave c.args.self.now.head h (of_half h c.args.self.now.zero c.args.self.now.one) (of_half (other h) c.args.self.now.zero c.args.self.now.one) records) c.in-One.is was_whole in
    let change = subst (λ (h : Half). IsChange (slice_index (of_half h c.args.self.now.zero c.args.self.now.one).head 4) raw) c.in-One.is was_change in
    ⊎_elim (λ before. inl (record { found = (One, before.taken); format_is = before.format_is })) (λ after. inr (record { found = (One, after.taken); format_is = after.format_is }))
    (logs.in_append g.D.Disk.seen g.D.Disk.may_leave c.args.self.now.head One c.args.self.now.one c.args.self.now.zero records whole raw (slice_index (of_half c.args.self.now.current c.args.self.now.zero c.args.self.now.one).head 4) (sym (ap (λ (h : Half). slice_index (of_half h c.args.self.now.zero c.args.self.now.one).head 4) c.in-One.is)) change b a (told _ whole.file _ whole.is_seen c.append-in-One.ensures.may_leave raw records body_is whole.rest b left_b) left_a)

pub returns-in-One-clause-any_moment : goal.returns-in-One-clause-any_moment
returns-in-One-clause-any_moment g c = λ tells raw records body_is was_change was_whole a b left_a left_b.
    let whole = subst (λ (h : Half). IsCurrent g.D.Disk.seen g.D.Disk.may_leave c.args.self.now.head h (of_half h c.args.self.now.zero c.args.self.now.one) (of_half (other h) c.args.self.now.zero c.args.self.now.one) records) c.in-One.is was_whole in
    let change = subst (λ (h : Half). IsChange (slice_index (of_half h c.args.self.now.zero c.args.self.now.one).head 4) raw) c.in-One.is was_change in
    ⊎_elim (λ before. inl (record { found = (One, before.taken); format_is = before.format_is })) (λ after. inr (record { found = (One, after.taken); format_is = after.format_is }))
    (logs.in_append g.D.Disk.seen g.D.Disk.may_leave c.args.self.now.head One c.args.self.now.one c.args.self.now.zero records whole raw (slice_index (of_half c.args.self.now.current c.args.self.now.zero c.args.self.now.one).head 4) (sym (ap (λ (h : Half). slice_index (of_half h c.args.self.now.zero c.args.self.now.one).head 4) c.in-One.is)) change b a ((told _ whole.file _ whole.is_seen (c.append-in-One.ensures.any_moment tells) raw records body_is whole.rest).each b left_b) (g.met.D.Disk.only_now tells c.args.self.now.zero.disk a left_a))

pub returns-in-Zero-clause-ready : goal.returns-in-Zero-clause-ready
returns-in-Zero-clause-ready g c =
    let ready = subst (λ (h : Half). LogIsReady g.D.Disk.seen g.D.Disk.may_leave (of_half h c.args.self.now.zero c.args.self.now.one)) c.in-Zero.is c.requires.ready in
    let raw = c.requires.body in
    if_ok c.append.result _ (λ done ok.
    let after : LogIsReady g.D.Disk.seen g.D.Disk.may_leave c.append.new.self = if_some (g.D.Disk.seen c.append.new.self.disk) (λ (file : List ℕ). (records : List Raw) × LogIsAtRest c.append.new.self.head c.append.new.self.used (g.D.Disk.may_leave c.append.new.self.disk) records file) (λ file is_seen.
    let was = was_told (g.D.Disk.seen c.args.self.now.zero.disk) (g.D.Disk.seen c.append.new.self.disk) file c.append.ensures.told is_seen in
    let rest = told _ was.0 _ was.1 ready in
    let now = IfOk-at_ok (λ _. IfSome (g.D.Disk.seen c.append.new.self.disk) (LogIsAtRest c.append.new.self.head c.append.new.self.used (g.D.Disk.may_leave c.append.new.self.disk) (rest.0 ++ raw.0 ∷ []))) ok
    (told _ was.0 _ was.1 c.append.ensures.acknowledged raw.0 rest.0 raw.1 rest.1) in
    (rest.0 ++ raw.0 ∷ [], told _ file _ is_seen now)) in
    subst (λ (h : Half). LogIsReady g.D.Disk.seen g.D.Disk.may_leave (of_half h c.append.new.self c.args.self.now.one)) (sym c.in-Zero.is) after)

pub returns-in-One-clause-ready : goal.returns-in-One-clause-ready
returns-in-One-clause-ready g c =
    let ready = subst (λ (h : Half). LogIsReady g.D.Disk.seen g.D.Disk.may_leave (of_half h c.args.self.now.zero c.args.self.now.one)) c.in-One.is c.requires.ready in
    let raw = c.requires.body in
    if_ok c.append-in-One.result _ (λ done ok.
    let after : LogIsReady g.D.Disk.seen g.D.Disk.may_leave c.append-in-One.new.self = if_some (g.D.Disk.seen c.append-in-One.new.self.disk) (λ (file : List ℕ). (records : List Raw) × LogIsAtRest c.append-in-One.new.self.head c.append-in-One.new.self.used (g.D.Disk.may_leave c.append-in-One.new.self.disk) records file) (λ file is_seen.
    let was = was_told (g.D.Disk.seen c.args.self.now.one.disk) (g.D.Disk.seen c.append-in-One.new.self.disk) file c.append-in-One.ensures.told is_seen in
    let rest = told _ was.0 _ was.1 ready in
    let now = IfOk-at_ok (λ _. IfSome (g.D.Disk.seen c.append-in-One.new.self.disk) (LogIsAtRest c.append-in-One.new.self.head c.append-in-One.new.self.used (g.D.Disk.may_leave c.append-in-One.new.self.disk) (rest.0 ++ raw.0 ∷ []))) ok
    (told _ was.0 _ was.1 c.append-in-One.ensures.acknowledged raw.0 rest.0 raw.1 rest.1) in
    (rest.0 ++ raw.0 ∷ [], told _ file _ is_seen now)) in
    subst (λ (h : Half). LogIsReady g.D.Disk.seen g.D.Disk.may_leave (of_half h c.args.self.now.zero c.append-in-One.new.self)) (sym c.in-One.is) after)
