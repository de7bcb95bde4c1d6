-- Nodes that keep their children, and a list that is noted at a node.
use Rattle.std.proofs.Common.{◌≡◌, ◌≢◌, ◌⊎◌, ℕ, ◌<◌, inl, inr, List, length, Some, ap, ◌∙◌, sym, refl, arith, set, get_or}
use Rattle.std.proofs.lemmas.Bool.{cases_eq}
use Rattle.std.proofs.lemmas.List.{get_or-set_other, get_or-set_same, get_or_default, get_or_past, length-set}
use Rattle.leaf_shape.specs.declared.node.Node.{Node}
use Rattle.leaf_shape.specs.Tables.{HasChildren, IsTree, bare, node}
use Rattle.leaf_shape.proofs.NodeLaws.{HasList}

-- a node that has children keeps them
pub had_children : (nodes : List Node) (n first : ℕ) → IsTree nodes → (node nodes n).below ≡ Some first → HasChildren nodes nodes n first
had_children nodes n first tree is = record {
  below = is;
  list = refl;
  others = λ j ne low. refl;
  fresh = λ j past. get_or_past nodes j bare past;
  longer = omega arith;
  eight = tree.eight n first is;
  made = inl is;
}

pub list_noted : (old new : List Node) (n list : ℕ) (was x : Node) → n < length old → was ≡ get_or old n was → new ≡ set old n x
    → x.below ≡ was.below → x.list ≡ Some list → HasList old new n list
list_noted old new n list was x low read write below noted = record {
  len = ap length write ∙ length-set old n x;
  below = λ j. same_below j (cases_eq j n);
  noted = ap (λ (m : Node). m.list) here ∙ noted;
  others = λ j ne. ap (λ (m : Node). m.list) (elsewhere j ne);
}
  where
    here : node new n ≡ x
    here = ap (λ (b : List Node). node b n) write ∙ get_or-set_same old n x bare low

    elsewhere : (j : ℕ) → j ≢ n → node new j ≡ node old j
    elsewhere j ne = ap (λ (b : List Node). node b j) write ∙ get_or-set_other old n j x bare ne

    same_below : (j : ℕ) → (j ≡ n) ⊎ (j ≡ n → ⊥) → (node new j).below ≡ (node old j).below
    same_below j (inl same) =
        ap (λ i. (node new i).below) same ∙ ap (λ (m : Node). m.below) here ∙ below ∙ ap (λ (m : Node). m.below) (read ∙ get_or_default old n was bare low)
        ∙ sym (ap (λ i. (node old i).below) same)
    same_below j (inr ne) = ap (λ (m : Node). m.below) (elsewhere j ne)
