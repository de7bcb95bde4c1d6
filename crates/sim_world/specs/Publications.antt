-- How a loader publishes a batch: which leaves are new, which are split, and how a split list is swept.
use Rattle.std.specs.Prelude.{ℕ, zero, suc, ◌+◌, Bool, true, false, not, nat_lt, List, [], ◌∷◌, ◌++◌, length, map, filter, slice_get, option_to_list, Option, Some, None, if◌then◌else◌}
use Rattle.std.specs.Option.{option_map_or}
use Rattle.cube_math.specs.Batches.{BatchValue}
use Rattle.chunk_pool.specs.Amounts.{chunks_for}
use Rattle.octree_model.specs.Leaves.{leaves}
use Rattle.octree_model.specs.Octree.{inside}
use Rattle.octree_model.specs.declared.outline.OutlineNode.{OutlineNode}
use Rattle.list_machine.specs.Words.{item_in}
use Rattle.list_machine.specs.Machine.{State}
use Rattle.list_machine.specs.Moves.{leaf_in, next_mark, chunk_adopted, slot_marked}
use Rattle.list_machine.specs.declared.views.Leaf.{Leaf}
use Rattle.list_machine.specs.declared.views.Stage.{Stage}
use Rattle.list_machine.specs.declared.views.Stage.TheVariants.{Open, Swept, Cleared}
use Rattle.record_model.specs.Admissions.{admitted_points}
use Rattle.sim_world.specs.Chunks.{least_free}
use Rattle.sim_world.specs.Decisions.{published_with}
use Rattle.sim_world.specs.Jobs.{JobValue}
use Rattle.sim_world.specs.Versions.{LeafRow, WorldVersion, no_chains, row_with, list_for}
use Rattle.sim_world.specs.Worlds.{Filing, LoaderPlace, shuts, marks, moves, places, commits, World, at_loader, with_lists}

-- ---- the leaves of the next version

abbrev pub row_or_new : Option LeafRow → ℕ → OutlineNode → List LeafRow → List LeafRow → List LeafRow
row_or_new (Some r) next n rest rest_after_new = r ∷ rest
row_or_new None next n rest rest_after_new = record { path = n.path; cube = n.cube; list = next; chains = no_chains } ∷ rest_after_new

-- the leaves of an octree: each as it was, or a new one with the next list
abbrev pub rows_for : List LeafRow → ℕ → List OutlineNode → List LeafRow
rows_for rows next [] = []
rows_for rows next (n ∷ ns) = row_or_new (row_with n.path rows) next n (rows_for rows next ns) (rows_for rows (suc next) ns)

-- those of the octree of the points that are published with a batch
abbrev pub next_rows : JobValue → World → BatchValue → List LeafRow
next_rows job w b = rows_for w.version.leaves w.opened (leaves job.config.leaf job.config.cube (published_with w b))

-- whether a leaf with the same path is among some leaves
abbrev pub is_listed : List LeafRow → LeafRow → Bool
is_listed rows r = option_map_or (λ (x : LeafRow). true) (row_with r.path rows) false

-- the leaves that are new, and the lists of those that are split, in path order
abbrev pub new_rows : JobValue → World → BatchValue → List LeafRow
new_rows job w b = filter (λ r. not (is_listed w.version.leaves r)) (next_rows job w b)

abbrev pub splits_due : JobValue → World → BatchValue → List ℕ
splits_due job w b = map (λ r. r.list) (filter (λ r. not (is_listed (next_rows job w b) r)) w.version.leaves)

-- ---- chunks for new leaves

-- so many free chunks join the owned chain of a list
abbrev pub adopted_times : ℕ → ℕ → State → ℕ → State
adopted_times chunks zero s l = s
adopted_times chunks (suc n) s l = adopted_times chunks n (chunk_adopted s l (least_free chunks s)) l

-- each leaf gets chunks for the admitted points in its cube
abbrev pub adopted_for : JobValue → World → List LeafRow → State → State
adopted_for job w [] s = s
adopted_for job w (r ∷ rs) s =
    adopted_for job w rs (adopted_times job.config.chunks (chunks_for (length (inside r.cube (admitted_points w.events)))) s r.list)

-- ---- sweeps

-- the item in the slot that the sweep of a list marks next, if there is one
abbrev pub item_at_mark : State → ℕ → Stage → List ℕ
item_at_mark s l Open = []
item_at_mark s l (Swept p n m) = let slot = next_mark (leaf_in s l) n m in option_to_list (item_in (s.words.slot slot.0 slot.1))
item_at_mark s l (Cleared p n) = []

-- whether a sweep of a list with so many used owned slots has marked all
abbrev pub is_swept_at : Stage → ℕ → Bool
is_swept_at Open used = false
is_swept_at (Swept p n m) used = not (nat_lt m (n + used))
is_swept_at (Cleared p n) used = false

abbrev pub is_swept : Leaf → Bool
is_swept a = is_swept_at a.stage a.used

-- the list of the new leaf of an item
abbrev pub list_of_item : JobValue → World → BatchValue → ℕ → ℕ
list_of_item job w b x = option_map_or (list_for (next_rows job w b)) (slice_get (admitted_points w.events) x) 0

-- ---- what comes next where there may be nothing to do

abbrev pub to_places : Filing → List ℕ → LoaderPlace
to_places f [] = commits f
to_places f (x ∷ xs) = places f (x ∷ xs)

abbrev pub to_shuts : Filing → List ℕ → LoaderPlace
to_shuts f [] = to_places f f.late
to_shuts f (l ∷ ls) = shuts f (l ∷ ls)

abbrev pub to_moves : Filing → List ℕ → List ℕ → LoaderPlace
to_moves f [] ls = to_shuts f ls
to_moves f (x ∷ xs) ls = moves f (x ∷ xs) ls

abbrev pub to_marks : State → Filing → ℕ → List ℕ → List ℕ → LoaderPlace
to_marks s f l found ls = if is_swept (leaf_in s l) then to_moves f found ls else marks f l found ls

-- the next slot of the swept list l is marked, and its item found
abbrev pub marked_step : World → ℕ → List BatchValue → Filing → ℕ → List ℕ → List ℕ → World
marked_step w a bs f l found ls =
    let s = slot_marked w.lists l in
    at_loader (with_lists w s) a bs (to_marks s f l (found ++ item_at_mark w.lists l (leaf_in w.lists l).stage) ls)

-- ---- the next version

-- a leaf with the chains of its list as they are
abbrev pub row_now : State → LeafRow → LeafRow
row_now s r = record r { chains = record { claimed = (leaf_in s r.list).claimed; owned = (leaf_in s r.list).owned } }

-- the leaves with the chains as they are, and one batch more
abbrev pub next_version : JobValue → World → ℕ → BatchValue → Filing → WorldVersion
next_version job w a b f = record {
  leaves = map (row_now w.lists) (next_rows job w b);
  batches = w.version.batches ++ record { entry = record { input = b.input; loader = a; points = b.points }; first = f.first } ∷ [];
}
