-- How scratch stands for the search's queue: for whoever reads there what a search has left.
-- Word i of the first M words is entry i: its bucket, and 65,536 times the entry that it was
-- reached from. Word M + b says where bucket b stands and from which cell it was reached: 4 times its entry, and the cell's place in its
-- bucket. A bucket is marked exactly if the entry that its word names is one of the queue's and names the bucket, so that no word has to
-- be cleared before a search. How many entries are roots is known beside scratch.
-- Assumes nothing.
use Rattle.std.specs.Prelude.{◌≡◌, cond, List, [], ◌∷◌, ◌++◌, ℕ, zero, suc, ◌+◌, ◌*◌, ◌-◌, ◌/◌, ◌%◌, ◌≤◌, ◌<◌, ltb, length, get_or}
use Rattle.calls.specs.Search.{Node, node}

-- the bucket that entry i names, the entry that it was reached from, and its cell's place there
abbrev pub bucket_in : List ℕ → ℕ → ℕ
bucket_in w i = get_or w i 0 % 65536

abbrev pub parent_in : List ℕ → ℕ → ℕ
parent_in w i = get_or w i 0 / 65536

abbrev pub place_in : ℕ → List ℕ → ℕ → ℕ
place_in m w i = get_or w (m + bucket_in w i) 0 % 4

-- the cell that entry i was reached from
abbrev pub origin_in : ℕ → List ℕ → ℕ → ℕ
origin_in m w i = 4 * bucket_in w (parent_in w i) + place_in m w i

-- entry i as a node, where q are the nodes before it
abbrev pub node_in : ℕ → List ℕ → ℕ → List Node → ℕ → Node
node_in m w roots q i = node (bucket_in w i) (cond (ltb i roots) [] (origin_in m w i ∷ (get_or q (parent_in w i) (node 0 [])).path))

-- the queue of the first t entries
unfoldable pub queue_in : ℕ → List ℕ → ℕ → ℕ → List Node
queue_in m w roots zero = []
queue_in m w roots (suc t) = let q = queue_in m w roots t in q ++ (node_in m w roots q t ∷ [])

-- the relocation path of entry i
unfoldable pub path_in : ℕ → List ℕ → ℕ → ℕ → List ℕ
path_in m w roots i = (get_or (queue_in m w roots (suc i)) i (node 0 [])).path

-- a sparse set: each of the first t entries names a bucket below m whose word names the entry, and came from an earlier one, the first
-- from itself
pub record Sparse (m : ℕ) (w : List ℕ) (t : ℕ) : Type 0 where
  pub big : 2 * m ≤ length w
  pub small : m ≤ 65536
  pub count : t ≤ m
  pub low : (i : ℕ) → i < t → bucket_in w i < m
  pub back : (i : ℕ) → i < t → get_or w (m + bucket_in w i) 0 / 4 ≡ i
  pub older : (i : ℕ) → i < t → parent_in w i ≤ i - 1

-- scratch stands for a queue
pub record Stands (m : ℕ) (w : List ℕ) (roots : ℕ) (q : List Node) : Type 0 where
  pub sparse : Sparse m w (length q)
  pub queue : queue_in m w roots (length q) ≡ q
