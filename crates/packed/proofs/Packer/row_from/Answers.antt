use native.Mathlib.Omega.{arith}
use Rattle.rows.proofs.Rank.{counts-at}
use Rattle.packed.proofs.Packer.row_from.Goals as goal

pub overflow_sub-result-2 : goal.overflow_sub-result-2
overflow_sub-result-2 c = let h = c.requires in let f = (counts-at _ c.args.a c.args.b c.args.c c.args.d c.args.self.counts_are h.0 h.1 h.2 h.3).few in omega arith

pub overflow_sub-result-3 : goal.overflow_sub-result-3
overflow_sub-result-3 c = let h = c.requires in let f = (counts-at _ c.args.a c.args.b c.args.c c.args.d c.args.self.counts_are h.0 h.1 h.2 h.3).few in omega arith

pub returns : goal.returns
returns c = let h = c.requires in (counts-at _ _ _ _ _ c.args.self.counts_are h.0 h.1 h.2 h.3).rank
