use Rattle.std.proofs.Common.{◌≡◌, ◌⊎◌, ◌∙◌, IfOk, IsErrOf, ap, subst, sym}
use Rattle.pf_entry.specs.Records.{Durable}
use Rattle.pf_server_store.specs.Stores.{RecordsStandFor}
use Rattle.pf_server_store.specs.declared.faults.ReloadFault.TheVariants.{DiskFault}
use Rattle.pf_image.specs.declared.pair.Pair.{Pair}
use Rattle.pf_image.specs.Pairs.{current_of, format_of, pair_moved_to, place_of_pair}
use Rattle.pf_disk_store.specs.Kept.{IsKept, OneRose, PairWentOn, tells}
use Rattle.pf_disk_store.proofs.Pairs.{back, format_back, kept_back, one_rose_later, tells_same, used_back, went_back}
use Rattle.pf_disk_store.proofs.kept.KeptStore.find.Goals as goal

pub returns : goal.returns
returns g c =
    let seen = g.D.Disk.seen in
    let may_leave = g.D.Disk.may_leave in
    let old = c.args.self.now.pair in
    let read = c.read-read.new.self.pair in
    let said = c.read-read.ensures in
    let gone_back : c.stand_at.new.self ≡ back seen may_leave old read said.reread = c.stand_at.ensures ∙ ap (λ p. pair_moved_to read p) c.place-stood.ensures in
    let on : pair_moved_to c.stand_at.new.self c.place-self.result ≡ read = ap (λ p. pair_moved_to c.stand_at.new.self p) c.place-self.ensures ∙ ap (λ (m : Pair g.row.D.Denot). pair_moved_to m (place_of_pair read)) gone_back in
    let went : (before after : Durable) → IsKept seen may_leave old before after → PairWentOn seen g.D.Disk.faults g.D.Disk.moment g.D.Disk.left_since g.D.Disk.tells_moments old c.stand_at.new.self before after = λ before after kept.
    subst (λ (m : Pair g.row.D.Denot). PairWentOn seen g.D.Disk.faults g.D.Disk.moment g.D.Disk.left_since g.D.Disk.tells_moments old m before after) (sym gone_back)
    (went_back seen may_leave old read said.reread g.D.Disk.faults g.D.Disk.moment g.D.Disk.left_since g.D.Disk.tells_moments before after (said.any_moment before after kept)) in
    record {
      found = λ tells_it. subst (λ (m : Pair g.row.D.Denot). IfOk c.read-read.result (λ found. (before after : Durable) → IsKept seen may_leave old before after → (d : Durable) × ((d ≡ before) ⊎ (d ≡ after)) × RecordsStandFor found d × IsKept seen may_leave m d d)) (sym on) (said.found tells_it);
      whole = subst (λ (m : Pair g.row.D.Denot). IfOk c.read-read.result (λ found. (d : Durable) × RecordsStandFor found d × IsKept seen may_leave m d d)) (sym on) said.whole;
      state = subst (λ (m : Pair g.row.D.Denot). IfOk c.read-read.result (λ found. ((current_of m).used ≡ found.used) × (format_of m ≡ found.format))) (sym on) said.state;
      still = record {
        holds_same = λ before after kept. subst (λ (m : Pair g.row.D.Denot). IsKept seen may_leave m before after) (sym gone_back) (kept_back seen may_leave old read said.reread before after kept);
        used_same = ap (λ (m : Pair g.row.D.Denot). (current_of m).used) gone_back ∙ used_back seen may_leave old read said.reread;
        format_same = ap (λ (m : Pair g.row.D.Denot). format_of m) gone_back ∙ format_back seen may_leave old read said.reread;
      };
      any_moment = went;
      ours = said.ours;
      told = ap (λ (m : Pair g.row.D.Denot). tells seen m) gone_back ∙ tells_same seen may_leave old read said.reread;
      cause = subst (λ (m : Pair g.row.D.Denot). IsErrOf c.read-read.result DiskFault → OneRose g.D.Disk.faults old m) (sym gone_back) said.cause;
      later = λ next rose. one_rose_later g.D.Disk.faults old read next.pair said.later (subst (λ (m : Pair g.row.D.Denot). OneRose g.D.Disk.faults m next.pair) gone_back rose);
    }
