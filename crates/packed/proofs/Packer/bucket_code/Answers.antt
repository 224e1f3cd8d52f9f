use Rattle.packed.proofs.Buckets.{sorted-asked, bucket-made}
use Rattle.packed.proofs.Bytes.{allowed}
use Rattle.packed.proofs.Packer.bucket_code.Goals as goal

pub code_by-requires : goal.code_by-requires
code_by-requires c = sorted-asked (allowed c.args.self.width) c.requires c.sorted-f.ensures

pub returns : goal.returns
returns c = bucket-made (allowed c.args.self.width) c.requires c.sorted-f.ensures c.code_by.ensures
