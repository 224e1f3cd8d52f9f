use Rattle.packed.proofs.Bytes.{allowed}
use Rattle.packed.proofs.Words.{bucket-word}
use Rattle.packed.proofs.Unpacker.bucket_from.Goals as goal

pub overflow_add-all : goal.overflow_add-all
overflow_add-all c =
    let u = c.args.self in
    record { fits = (bucket-word _ _ _ u.quads_are (allowed u.width) c.requires c.nibbles-high.ensures c.fields-low.ensures).fits }

pub overflow_cast-result-4 : goal.overflow_cast-result-4
overflow_cast-result-4 c =
    let u = c.args.self in
    record { fits = (bucket-word _ _ _ u.quads_are (allowed u.width) c.requires c.nibbles-high.ensures c.fields-low.ensures).top }

pub returns : goal.returns
returns c = let u = c.args.self in (bucket-word _ _ _ u.quads_are (allowed u.width) c.requires c.nibbles-high.ensures c.fields-low.ensures).apart
