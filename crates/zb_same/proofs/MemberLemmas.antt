-- The members of an expression as a list.
use Rattle.std.proofs.Common.{◌≡◌, List, [], ◌∷◌, refl, sym, ap, ◌∙◌}
use Rattle.zb_process.specs.Tree.{Tree, Trees, Members, none, more, trees_of}

-- the members in a list
listed : Trees → List Tree
listed none = []
listed (more t ts) = t ∷ listed ts

listed_back : (ts : List Tree) → listed (trees_of ts) ≡ ts
unfolding listed
listed_back [] = refl
listed_back (t ∷ ts) = ap (λ (l : List Tree). t ∷ l) (listed_back ts)

-- lists with the same members are the same list
pub members_same : (ts us : List Tree) → Members (trees_of ts) ≡ Members (trees_of us) → ts ≡ us
members_same ts us e =
    let same : trees_of ts ≡ trees_of us = cc in
    sym (listed_back ts) ∙ (ap listed same ∙ listed_back us)
