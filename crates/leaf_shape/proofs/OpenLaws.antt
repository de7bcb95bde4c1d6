-- The nodes while a list is opened for a path.
use Rattle.std.proofs.Common.{◌≡◌, ◌⊎◌, ℕ, ◌+◌, ◌*◌, ◌<◌, ◌≤◌, inl, inr, List, [], ◌∷◌, ◌++◌, length, take, drop, Some, None, Option, ap, ◌∙◌, sym, refl, arith, subst, slice_get}
use Rattle.std.proofs.lemmas.List.{drop_more, take_more, take-append-drop, take_all}
use Rattle.std.proofs.lemmas.Option.{slice_get_within, get_or_from_slice_get}
use Rattle.std.specs.Prelude.{IsSome, is_some}
use Rattle.cube_math.proofs.Ways.{next_of}
use Rattle.leaf_shape.specs.declared.node.Node.{Node}
use Rattle.leaf_shape.specs.Shapes.{IsBelow}
use Rattle.leaf_shape.specs.Tables.{HasChildren, HasChildrenAt, IsOpened, IsTree, list_at, missing, node, node_at}
use Rattle.leaf_shape.proofs.NodeLaws.{HasList, at_append, children_there, few_missing, kept_nodes, list_here, lists_elsewhere, lists_with_children, missing_all, missing_falls, missing_step, node_step, none_is, same_nodes, tree_with_children, tree_with_list, within}

-- the nodes of the first steps of a path are there, and else nodes and lists are as before
pub record IsReached (old nodes : List Node) (path : List ℕ) (step i : ℕ) : Type 0 where
  pub tree : IsTree nodes
  pub kept : (other : List ℕ) (j : ℕ) → node_at old 0 other ≡ Some j → node_at nodes 0 other ≡ Some j
  pub at : node_at nodes 0 (take step path) ≡ Some i
  pub lists : (other : List ℕ) → list_at nodes other ≡ list_at old other
  pub used : (other : List ℕ) → HasChildrenAt nodes other → HasChildrenAt old other ⊎ IsBelow other path

pub reached_root : (old : List Node) (path : List ℕ) → IsTree old → IsReached old old path 0 0
reached_root old path tree = record { tree = tree; kept = λ other j e. e; at = refl; lists = λ other. refl; used = λ other h. inl h }

module _ (old nodes : List Node) (path : List ℕ) (step i : ℕ) (r : IsReached old nodes path step i) where
  pub reached_within : i < length nodes
  reached_within = within nodes 0 (take step path) i r.tree r.tree.some r.at

  -- one step more
  pub reached_next : (new : List Node) (first g : ℕ) → HasChildren nodes new i first → g < 8
      → slice_get path step ≡ Some g → IsReached old new path (step + 1) (first + g)
  reached_next new first g has low at = record {
    tree = tree_with_children nodes new i first r.tree has;
    kept = λ other j e. kept_nodes nodes new i first r.tree has 0 other j r.tree.some (r.kept other j e);
    at = ap (node_at new 0) longer ∙ at_append new 0 (take step path) (g ∷ []) i (kept_nodes nodes new i first r.tree has 0 (take step path) i r.tree.some r.at)
        ∙ node_step new i g first [] low has.below;
    lists = λ other. lists_with_children nodes new i first r.tree has other ∙ r.lists other;
    used = λ other h. used other (children_there nodes new i first r.tree has other h);
  }
    where
      short : step < length path
      short = slice_get_within path step g at

      longer : take (step + 1) path ≡ take step path ++ g ∷ []
      longer = take_more path step 0 short ∙ ap (λ k. take step path ++ k ∷ []) (get_or_from_slice_get path step g 0 at)

      below : IsBelow (take step path) path
      below = record {
        octant = g;
        rest = drop (step + 1) path;
        is = sym (take-append-drop step path)
            ∙ ap (λ (q : List ℕ). take step path ++ q) (drop_more path step 0 short
            ∙ ap (λ k. k ∷ drop (step + 1) path) (get_or_from_slice_get path step g 0 at));
      }

      used : (other : List ℕ) → HasChildrenAt nodes other ⊎ (node_at nodes 0 other ≡ Some i) → HasChildrenAt old other ⊎ IsBelow other path
      used other (inl h) = r.used other h
      used other (inr e) =
          let same : other ≡ take step path = r.tree.single other (take step path) i e r.at in
          let P : List ℕ → Type 0 = λ q. IsBelow q path in
          inr (subst P (sym same) below)

  -- the list is noted at the end
  pub opened_at_end : (new : List Node) (list : ℕ) → length path ≤ step → HasList nodes new i list → IsOpened old new path list i
  opened_at_end new list end has = record {
    tree = tree_with_list nodes new i list has r.tree;
    kept = λ other j e. same_nodes nodes new i list has 0 other ∙ r.kept other j e;
    here = same_nodes nodes new i list has 0 path ∙ at;
    noted = list_here nodes new i list has path at;
    others = λ other ne. lists_elsewhere nodes new i list has path other r.tree at ne ∙ r.lists other;
    used = λ other j first e is. r.used other record {
      number = j;
      first = first;
      at = sym (same_nodes nodes new i list has 0 other) ∙ e;
      below = sym (has.below j) ∙ is;
    };
  }
    where
      at : node_at nodes 0 path ≡ Some i
      at = ap (node_at nodes 0) (sym (take_all step path end)) ∙ r.at

-- ---- how many nodes are missing after a step
pub record IsMissing (nodes new : List Node) (i : ℕ) (g : ℕ) (rest : List ℕ) (first : ℕ) : Type 0 where
  pub had : (f : ℕ) → (node nodes i).below ≡ Some f → missing new (first + g) rest ≤ missing nodes i (g ∷ rest)
  pub made : (node nodes i).below ≡ None → missing new (first + g) rest + 1 ≤ missing nodes i (g ∷ rest)

pub missing_next : (nodes new : List Node) (i g first : ℕ) (rest : List ℕ) → IsTree nodes
    → HasChildren nodes new i first → g < 8 → IsMissing nodes new i g rest first
missing_next nodes new i g first rest tree has low = record { had = had; made = made }
  where
    had : (f : ℕ) → (node nodes i).below ≡ Some f → missing new (first + g) rest ≤ missing nodes i (g ∷ rest)
    had f is = of_made has.made
      where
        of_made : ((node nodes i).below ≡ Some first) ⊎ ((node nodes i).below ≡ None) × (first ≡ length nodes)
            → missing new (first + g) rest ≤ missing nodes i (g ∷ rest)
        of_made (inl was) = omega (
          arith,
          missing_step nodes i g first rest was,
          missing_falls nodes new i first tree has (first + g) rest (omega (arith, tree.eight i first was, low)),
        )
        of_made (inr none) = absurd (none_is f (sym none.0 ∙ is))

    made : (node nodes i).below ≡ None → missing new (first + g) rest + 1 ≤ missing nodes i (g ∷ rest)
    made none = omega (arith, missing_all nodes i g rest none, few_missing new (first + g) rest)

-- a step takes no more than is missing
pub total_next : (nodes new : List Node) (i g first : ℕ) (path : List ℕ) (step len len' : ℕ) → IsTree nodes
    → HasChildren nodes new i first → g < 8 → slice_get path step ≡ Some g → (IsSome (node nodes i).below → len' ≡ len) → len' ≤ len + 8
    → len' + 8 * missing new (first + g) (drop (step + 1) path) ≤ len + 8 * missing nodes i (drop step path)
total_next nodes new i g first path step len len' tree has low at stays most =
    of_below (node nodes i).below refl (missing_next nodes new i g first (drop (step + 1) path) tree has low)
  where
    here : missing nodes i (drop step path) ≡ missing nodes i (g ∷ drop (step + 1) path)
    here = ap (missing nodes i) (next_of path step g at)

    of_below : (o : Option ℕ) → (node nodes i).below ≡ o → IsMissing nodes new i g (drop (step + 1) path) first
        → len' + 8 * missing new (first + g) (drop (step + 1) path) ≤ len + 8 * missing nodes i (drop step path)
    of_below None none m = omega (arith, here, m.made none, most)
    of_below (Some f) is m = omega (arith, here, m.had f is, stays (ap (λ (o : Option ℕ). is_some o) is))

-- where a node on the way has no children, one is missing at least
pub one_missing : (nodes : List Node) (i g : ℕ) (path : List ℕ) (step : ℕ) → slice_get path step ≡ Some g
    → (node nodes i).below ≡ None → 1 ≤ missing nodes i (drop step path)
one_missing nodes i g path step at none = omega (arith, ap (missing nodes i) (next_of path step g at), missing_all nodes i g (drop (step + 1) path) none)
