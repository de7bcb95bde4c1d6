use Rattle.std.proofs.Common.{◌≡◌, ℕ, true, false, List, flat_map, arith, rules, subst, sym, ◌∙◌, ap}
use Rattle.std.proofs.lemmas.Bool.Decides.{Decides-eqb}
use Rattle.std.proofs.lemmas.Slice.Eq.{slice_eq-Decides}
use Rattle.cube_math.specs.Points.{PointValue}
use Rattle.octree_model.specs.Facts.{facts}
use Rattle.octree_model.specs.Octree.{octree}
use Rattle.octree_file.specs.Files.{ArePoints, IsFileOf, tree_file}
use Rattle.octree_reader.specs.Nodes.{node_points}
use Rattle.octree_reader.proofs.FieldLaws.{from_place, none_told, some_told}
use Rattle.octree_reader.proofs.FileLaws.{nodes_named, one_octree}
use Rattle.octree_reader.proofs.opening.open_file.Goals as goal

pub returns-in_default-clause-fault : goal.returns-in_default-clause-fault
returns-in_default-clause-fault c = (
  c.in_ok-cube.ensures.head.0,
  λ f.
      let n = nodes_named c.args.bytes.now c.in_ok-cube.cube c.in_ok-cube.leaf c.in_ok-cube.ensures.head.1 c.in_ok-cube.ensures.head.2 f in
      none_told c.in_ok-points.field-0 _ c.in_default.is (c.in_ok-points.ensures n.nodes n.each (from_place c.args.bytes.now 22 ∙ n.at)),
)

pub returns-then-not-are_within-clause-fault : goal.returns-then-not-are_within-clause-fault
returns-then-not-are_within-clause-fault c = (
  c.in_ok-cube.ensures.head.0,
  λ f.
      let n = nodes_named c.args.bytes.now c.in_ok-cube.cube c.in_ok-cube.leaf c.in_ok-cube.ensures.head.1 c.in_ok-cube.ensures.head.2 f in
      let found : c.in-Some.points.items ≡ flat_map node_points n.nodes =
      some_told c.in_ok-points.field-0 c.in-Some.points _ c.in-Some.is (c.in_ok-points.ensures n.nodes n.each (from_place c.args.bytes.now 22 ∙ n.at)) in
      let given : c.deref.result.now ≡ flat_map node_points n.nodes = c.deref.ensures.value ∙ found in
      let all : c.are_within.result ≡ true = c.are_within.ensures.outside (n.are c.deref.result.now given) (n.within c.deref.result.now given) in
      let not_all : c.are_within.result ≡ false = c.if-not-are_within.true in
      absurd cc,
)

pub returns-else-eq-clause-fault : goal.returns-else-eq-clause-fault
returns-else-eq-clause-fault c = (
  c.in_ok-cube.ensures.head.0,
  λ f.
      let n = nodes_named c.args.bytes.now c.in_ok-cube.cube c.in_ok-cube.leaf c.in_ok-cube.ensures.head.1 c.in_ok-cube.ensures.head.2 f in
      let found : c.in-Some.points.items ≡ flat_map node_points n.nodes =
      some_told c.in_ok-points.field-0 c.in-Some.points _ c.in-Some.is (c.in_ok-points.ensures n.nodes n.each (from_place c.args.bytes.now 22 ∙ n.at)) in
      let tree : c.in_ok-tree.tree ≡ octree c.in_ok-cube.leaf c.in_ok-cube.cube c.in-Some.points.items = search rules in
      let same : c.in_ok-file.file.items ≡ c.args.bytes.now =
      c.in_ok-file.ensures.bytes ∙ ap (tree_file c.in_ok-cube.leaf c.in_ok-cube.cube) tree ∙ n.back c.in-Some.points.items found in
      let equal : c.eq.result ≡ true =
      (slice_eq-Decides Decides-eqb c.as_slice.result.now c.args.bytes.now c.eq.result c.eq.ensures).1 (c.as_slice.ensures.value ∙ same) in
      let other : c.eq.result ≡ false = c.if-eq.false in
      absurd cc,
)

pub returns-then-eq-clause-opened : goal.returns-then-eq-clause-opened
returns-then-eq-clause-opened c =
    let tree : c.in_ok-tree.tree ≡ octree c.in_ok-cube.leaf c.in_ok-cube.cube c.in-Some.points.items = search rules in
    let given : c.deref.result.now ≡ c.in-Some.points.items = c.deref.ensures.value in
    let same : c.as_slice.result.now ≡ c.args.bytes.now =
    (slice_eq-Decides Decides-eqb c.as_slice.result.now c.args.bytes.now c.eq.result c.eq.ensures).0 c.if-eq.true in
    let are : ArePoints c.in-Some.points.items = subst ArePoints given (c.are_within.ensures.points c.if-not-are_within.false) in
    let file : IsFileOf c.in_ok-file.file.items c.in_ok-cube.cube c.in_ok-cube.leaf c.in-Some.points.items =
    c.in_ok-file.ensures.file c.in-Some.points.items are tree in
    record {
      points = c.in-Some.points.items;
      file = subst (λ (bytes : List ℕ). IsFileOf bytes c.in_ok-cube.cube c.in_ok-cube.leaf c.in-Some.points.items) (sym c.as_slice.ensures.value ∙ same) file;
      is = tree;
    }

pub returns-then-eq-clause-one : goal.returns-then-eq-clause-one
returns-then-eq-clause-one c =
    let tree : c.in_ok-tree.tree ≡ octree c.in_ok-cube.leaf c.in_ok-cube.cube c.in-Some.points.items = search rules in
    λ ps file. ap facts tree ∙ one_octree c.args.bytes.now c.in_ok-cube.cube c.in_ok-cube.leaf c.in-Some.points.items ps file
    (λ nodes each at. some_told c.in_ok-points.field-0 c.in-Some.points _ c.in-Some.is
    (c.in_ok-points.ensures nodes each (from_place c.args.bytes.now 22 ∙ at)))
