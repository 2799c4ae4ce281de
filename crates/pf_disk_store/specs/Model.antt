-- Two disks as a store.
use Rattle.std.specs.Prelude.{ℕ, Bool, List, Option}
use Rattle.pf_disk.specs.Crashes.{Images}
use Rattle.pf_image.specs.Pairs.{current_of, format_of, pair_moved_to}
use Rattle.pf_server_store.specs.Stores.{StoreModel}
use Rattle.pf_disk_store.specs.declared.kept.Kept.{Kept}
use Rattle.pf_disk_store.specs.Kept.{IsKept, OneRose, PairWentOn, tells}

-- what a store says of its disks
abbrev pub kept_model : {D : Type 0} → (seen : D → Option (List ℕ)) (may_leave : D → Images) (faults moment : D → ℕ) (left_since : D → ℕ → Images)
    (tells_moments : Bool) → StoreModel (Kept D)
kept_model seen may_leave faults moment left_since tells_moments = record {
  holds = λ kept before after. IsKept seen may_leave kept.pair before after;
  told = λ kept. tells seen kept.pair;
  used = λ kept. (current_of kept.pair).used;
  format = λ kept. format_of kept.pair;
  rose = λ old new. OneRose faults old.pair new.pair;
  was = λ old new before after. PairWentOn seen faults moment left_since tells_moments old.pair new.pair before after;
  resumed = λ kept. record kept { pair = pair_moved_to kept.pair kept.found };
}
