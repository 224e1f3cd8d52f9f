use Rattle.table.proofs.Scratch.{sparse-room, sparse-first, sparse-new, queues-new}
use Rattle.table.proofs.queue.Queue.push.Goals as goal

pub invariant_of-self : goal.invariant_of-self
invariant_of-self c =
    let q = c.args.self.now in
    let r = c.requires.in_bounds in
    record { sparse = sparse-first q.buckets q.scratch.now q.tail c.args.b c.args.h c.args.k q.sparse r.0 (sparse-room q.sparse 0 _ r.0 c.requires.unmarked) r.2 r.1 c.requires.unmarked }

pub invariant_of-self-2 : goal.invariant_of-self-2
invariant_of-self-2 c =
    let q = c.args.self.now in
    let r = c.requires.in_bounds in
    record { sparse = sparse-new q.buckets q.scratch.now q.tail c.args.b c.args.h c.args.k q.sparse r.0 (sparse-room q.sparse 0 _ r.0 c.requires.unmarked) r.2 r.1 c.requires.unmarked }

pub returns-clause-queued : goal.returns-clause-queued
returns-clause-queued c =
    let q = c.args.self.now in
    let r = c.requires.in_bounds in
    queues-new q.buckets q.scratch.now q.tail c.args.b c.args.h c.args.k q.sparse r.0 (sparse-room q.sparse 0 _ r.0 c.requires.unmarked) r.2 r.1 c.requires.unmarked
