-- Lists that share their tails, kept in one vector of nodes.
use Rattle.std.specs.Prelude.{ℕ, suc, ◌<◌, ◌^◌, List, [], ◌∷◌, ◌++◌, length, get_or}
use Rattle.cp_run.specs.declared.item.Item.{Item}
use Rattle.cp_run.specs.declared.goals.Node.{Node}

-- the lists that begin at the nodes, after those made so far
abbrev pub lists_after : List (List Item) → List Node → List (List Item)
lists_after made [] = made
lists_after made (n ∷ nodes) = lists_after (made ++ (n.item ∷ get_or made n.rest []) ∷ []) nodes

-- list 0 is empty, and each node begins the next one
unfoldable pub lists_of : List Node → List (List Item)
lists_of nodes = lists_after ([] ∷ []) nodes

-- the tail of each list is one of the older ones
abbrev pub AreOlder : ℕ → List Node → Type 0
AreOlder n [] = Unit {0}
AreOlder n (x ∷ nodes) = (x.rest < n) × AreOlder (suc n) nodes

pub record AreLinked (nodes : List Node) : Type 0 where
  pub older : AreOlder 1 nodes
  pub fits : suc (length nodes) < 2 ^ 32
