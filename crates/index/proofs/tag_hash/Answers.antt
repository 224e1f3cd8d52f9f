use Rattle.std.proofs.Common.{ℕ, ap, ◌∙◌}
use Rattle.index.specs.Hash.{fnv_from, tag_hash}
use Rattle.index.proofs.tag_hash.Goals as goal

pub returns : goal.returns
unfolding tag_hash
returns c = c.fnv_from.ensures ∙ ap (λ (h : ℕ). fnv_from h c.args.tag.now) c.start_of.ensures
