-- Grids, as contracts see them.
use Rattle.std.specs.Prelude.{ℕ, ◌≡◌, true, List, ◌++◌, map}
use Rattle.octree_model.specs.Numbers.{has}
use Rattle.occupancy_grid.specs.Pages.{page_of}

-- a set of cells and a set of pages, each as an ascending list
pub record GridValue : Type 0 where
  pub cells : List ℕ
  pub pages : List ℕ

-- the cells stay, no page goes, and only pages of the cells of a list come
pub record AddsSomePages (old new : GridValue) (cells : List ℕ) : Type 0 where
  pub same : new.cells ≡ old.cells
  pub kept : (p : ℕ) → has p old.pages ≡ true → has p new.pages ≡ true
  pub few : (p : ℕ) → has p new.pages ≡ true → has p (old.pages ++ map page_of cells) ≡ true
