-- How a loader admits a batch and files its points.
use Rattle.std.specs.Prelude.{ℕ, suc, ◌+◌, ◌-◌, ◌/◌, ◌%◌, ◌^◌, Bool, true, false, ◌==◌, nat_lt, List, [], ◌∷◌, ◌++◌, length, map, filter, flat_map, replicate, slice_index, if◌then◌else◌}
use Rattle.cube_math.specs.Points.{PointValue}
use Rattle.cube_math.specs.Batches.{BatchValue}
use Rattle.chunk_pool.specs.Amounts.{chunks_for}
use Rattle.octree_model.specs.Octree.{inside}
use Rattle.list_machine.specs.State.{link_at}
use Rattle.list_machine.specs.Moves.{leaf_in, is_blank, last_link, place_claimed, item_filed, link_read}
use Rattle.list_machine.specs.declared.views.Grant.{Grant}
use Rattle.list_machine.specs.declared.views.Unfiled.{Unfiled}
use Rattle.list_machine.specs.declared.views.Unfiled.TheVariants.{Nothing, Place}
use Rattle.record_model.specs.Admissions.{admitted}
use Rattle.sim_world.specs.Versions.{LeafRow, list_for}
use Rattle.sim_world.specs.Worlds.{Task, Walk, Filing, LoaderPlace, links, leaves_admitted, files, World, at_loader, with_lists}

-- ---- the admission

-- how many points of a batch lie in a leaf
abbrev pub share : BatchValue → LeafRow → ℕ
share b r = length (inside r.cube b.points)

-- how many chunks the claimed chain of a leaf lacks for a batch
abbrev pub chunks_lacking : World → BatchValue → LeafRow → ℕ
chunks_lacking w b r = chunks_for ((leaf_in w.lists r.list).granted + share b r) - length (leaf_in w.lists r.list).claimed

-- the lists that get a chunk, each as often as it gets one: the leaves in path order
abbrev pub links_due : World → BatchValue → List ℕ
links_due w b = flat_map (λ r. replicate (chunks_lacking w b r) r.list) w.version.leaves

-- what the filing may claim: in each leaf as many slots as points
abbrev pub grants_for : World → BatchValue → List Grant
grants_for w b = filter (λ (g : Grant). nat_lt 0 g.n) (map (λ r. record { list = r.list; n = share b r }) w.version.leaves)

-- each point, with its item number, in the list that is its leaf's
abbrev pub tasks_from : List LeafRow → ℕ → List PointValue → List Task
tasks_from rows n [] = []
tasks_from rows n (p ∷ ps) = record { item = n; list = list_for rows p } ∷ tasks_from rows (suc n) ps

-- the filing of the batch that was admitted last: it knows the chains as they are
abbrev pub filing_for : World → BatchValue → Filing
filing_for w b =
    let first = admitted w.events - length b.points in
    record {
      seat = length w.lists.guests;
      first = first;
      todo = tasks_from w.version.leaves first b.points;
      walks = map (λ r. record { list = r.list; chunks = (leaf_in w.lists r.list).claimed }) w.version.leaves;
      late = [];
    }

-- ---- what a filing knows of chains

abbrev pub walk_of : List Walk → ℕ → List ℕ
walk_of [] l = []
walk_of (x ∷ xs) l = if x.list == l then x.chunks else walk_of xs l

-- with one chunk more of the list l
abbrev pub walk_on : List Walk → ℕ → ℕ → List Walk
walk_on [] l c = []
walk_on (x ∷ xs) l c = if x.list == l then record x { chunks = x.chunks ++ c ∷ [] } ∷ xs else x ∷ walk_on xs l c

-- the chunk that a link leads to
abbrev pub linked_chunk : ℕ → ℕ
linked_chunk n = n % 2 ^ 32 - 1

-- the chunk to which the link behind the known chunks of a list leads
abbrev pub next_chunk : World → Filing → ℕ → ℕ
next_chunk w f l = linked_chunk (link_at w.lists.words l (last_link (walk_of f.walks l)))

-- ---- what was tried

-- the first item was filed; or it is late
abbrev pub tried : Filing → List Task → Filing
tried f ts = record f { todo = ts }

abbrev pub tried_late : Filing → ℕ → List Task → Filing
tried_late f x ts = record f { todo = ts; late = f.late ++ x ∷ [] }

abbrev pub tried_if : Bool → Filing → ℕ → List Task → Filing
tried_if true f x ts = tried f ts
tried_if false f x ts = tried_late f x ts

-- a claim in a shut list makes the item late; in another one it gives a place, and the item is still to be filed
abbrev pub late_if : Bool → Filing → ℕ → List Task → Filing
late_if true f x ts = tried_late f x ts
late_if false f x ts = f

-- ---- one step with the first item

-- it is claimed at the place i: where the filing knows the chunk it is filed, and else a link is read
abbrev pub claimed_step : Bool → World → ℕ → List BatchValue → Filing → ℕ → ℕ → List Task → ℕ → World
claimed_step true w a bs f x l ts i =
    let c = slice_index (walk_of f.walks l) (i / 256) in
    at_loader (with_lists w (item_filed w.lists f.seat l c (i % 256) x)) a bs (files (tried_if (is_blank (w.lists.words.slot c (i % 256))) f x ts))
claimed_step false w a bs f x l ts i =
    let known = walk_of f.walks l in
    let c = next_chunk w f l in
    at_loader (with_lists w (link_read w.lists f.seat l (last_link known) (length known) c)) a bs (files (record f { walks = walk_on f.walks l c }))

-- the item x of the list l, by the claim of the filing's seat
abbrev pub task_step : World → ℕ → List BatchValue → Filing → ℕ → ℕ → List Task → Unfiled → World
task_step w a bs f x l ts Nothing = at_loader (with_lists w (place_claimed w.lists f.seat l)) a bs (files (late_if (w.lists.words.claim l).high f x ts))
task_step w a bs f x l ts (Place h i) = claimed_step (nat_lt (i / 256) (length (walk_of f.walks l))) w a bs f x l ts i

-- what comes next where there may be nothing to link
abbrev pub to_links : List ℕ → LoaderPlace
to_links [] = leaves_admitted
to_links (l ∷ ls) = links (l ∷ ls)
