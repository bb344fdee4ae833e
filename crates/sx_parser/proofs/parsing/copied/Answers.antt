use Rattle.std.proofs.Common.{◌≡◌, ℕ, List, [], ◌∷◌, Vec, refl}
use Rattle.std.specs.Global.{Global}
use Rattle.std.specs.List.{AllZip, each_same}
use Rattle.std.specs.Vec.{vec_len}
use Rattle.sx_token.specs.Sound.{contents}
use Rattle.sx_parser.proofs.parsing.copied.Goals as goal

same_contents : (vs ws : List (Vec ℕ Global)) → AllZip (λ (v w : Vec ℕ Global). AllZip (λ (x y : ℕ). y ≡ x) v.items w.items × (vec_len w ≡ vec_len v)) vs ws → contents ws ≡ contents vs
same_contents [] [] h = refl
same_contents [] (w ∷ ws) h = absurd h
same_contents (v ∷ vs) [] h = absurd h
same_contents (v ∷ vs) (w ∷ ws) h = let e = each_same v.items w.items h.0.0 in let f = same_contents vs ws h.1 in cc

pub returns : goal.returns
returns c = same_contents c.args.lists.now.items c.in_ok-copy.copy.items c.in_ok-copy.ensures.cases.0
