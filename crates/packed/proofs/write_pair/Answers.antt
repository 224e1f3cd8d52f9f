use Rattle.packed.proofs.Bytes.{allowed}
use Rattle.packed.proofs.Writing.{rest-fits, pair-by-words, pair-by-bytes}
use Rattle.packed.proofs.write_pair.Goals as goal

pub overflow_add-rest : goal.overflow_add-rest
overflow_add-rest c = record { fits = rest-fits (allowed c.args.width) c.requires }

pub returns-then-words : goal.returns-then-words
returns-then-words c =
    pair-by-words (allowed c.args.width) c.requires _ c.args.part.now c.emit_word.auto.part c.if-words.true c.emit_word.ensures _ c.emit_word-then-words.ensures

pub returns : goal.returns
returns c = pair-by-bytes (allowed c.args.width) c.requires _ c.args.part.now c.emit.auto.part c.emit.ensures _ c.emit-2.ensures
