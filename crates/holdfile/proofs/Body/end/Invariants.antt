use lib.ListN.{drop}
use mathlib.Core.Path.{◌≡◌}
use Prim.Native.Nat.{◌-◌}
use Rattle.holdfile.specs.Internal.{end_of}
use Rattle.file_form.specs.Reader.{read_buckets}
use Rattle.holdfile.proofs.Body.end.Given as goal

abbrev pub invariant-loop : goal.invariant-loop
invariant-loop l =
    end_of (read_buckets l.fn.self.width (l.fn.self.count - l.counter) (drop l.at l.fn.self.bytes.now))
    ≡ end_of (read_buckets l.fn.self.width l.fn.self.count (drop l.fn.self.from l.fn.self.bytes.now))
