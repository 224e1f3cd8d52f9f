use lib.ListN.{length, drop}
use mathlib.Core.Path.{◌≡◌}
use Prim.Native.Nat.{◌*◌, ◌-◌}
use Rattle.file_form.specs.Reader.{read_buckets}
use Rattle.holdfile.proofs.Reading.{Upto}
use Rattle.holdfile.proofs.Body.store.Given as goal

abbrev pub invariant-loop-bucket : goal.invariant-loop-bucket
invariant-loop-bucket l = record {
  upto : Upto l.fn.self.bytes.now (read_buckets l.fn.self.width l.fn.self.count (drop l.fn.self.from l.fn.self.bytes.now)) l.fn.self.width l.table l.at (4 * l.bucket) (l.count - l.bucket);
  long : length l.table ≡ length l.fn.table;
}

abbrev pub invariant-loop-bucket-2 : goal.invariant-loop-bucket-2
invariant-loop-bucket-2 l = record {
  upto : Upto l.fn.self.bytes.now (read_buckets l.fn.self.width l.fn.self.count (drop l.fn.self.from l.fn.self.bytes.now)) l.fn.self.width l.table l.at (4 * l.bucket) (l.count - l.bucket);
  long : length l.table ≡ length l.fn.table;
}
