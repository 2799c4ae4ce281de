use Rattle.std.proofs.Common.{◌≡◌, [], Some, length}
use Rattle.std.specs.List.{All}
use Rattle.polar_cli.proofs.ram_disks.Given as goal

abbrev pub invariant-loop : goal.invariant-loop
invariant-loop l = record {
  count : length l.disks.items ≡ l.counter;
  empty : All (λ d. Some d.bytes.items ≡ Some []) l.disks.items;
  room : All (λ d. d.room ≡ l.room) l.disks.items;
  sound : All (λ d. d.faults ≡ 0) l.disks.items;
}
