-- The pieces of a Compound are all its children that are pieces. Assumes nothing.
use Rattle.std.proofs.Common.{◌≡◌, ℕ, ◌≤◌, Bool, true, false, cond, not, ◌||◌, eqb, List, [], ◌∷◌, map, filter, length, sym, refl, ap, ◌∙◌, arith}
use Rattle.std.proofs.lemmas.List.{take_all, length-map}
use Rattle.std.proofs.lemmas.List.Sums.{length-filter, count_by-le-length}
use Rattle.std.proofs.lemmas.Simd.{map-map}
use Rattle.std.proofs.lemmas.Bool.{ne_eqb}
use Rattle.hosts.specs.declared.questions.Child.{Child}
use Rattle.hosts.specs.declared.questions.Sweep.{Sweep}
use Rattle.hosts.specs.Hosts.{Answers}
use Rattle.casts.specs.Pieces.{is_proxy, has_proxy, child_sweep}
use Rattle.casts.specs.Singles.{child_pieces}
use Rattle.pair_casts.specs.declared.fast_shape.FastSubShape.{FastSubShape}
use Rattle.pair_casts.specs.FastShapes.{sub_shape, piece, pieces}

-- a piece with its way
abbrev pub piece_of : ℕ × Sweep → FastSubShape
piece_of q = sub_shape q.0 q.1

module _ (h : Answers) (w : Sweep) where
  -- the children of a Compound that are pieces
  abbrev among : List Child → List Child
  among cs = filter (λ c. is_proxy (h.kind c.shape)) cs

  module _ (cs : List Child) (few : length cs ≤ 16) where
    -- sixteen have room, so none is left out
    pub pieces_all : pieces h w cs ≡ map piece_of (child_pieces h w cs)
    pieces_all =
        let p = λ (c : Child). is_proxy (h.kind c.shape) in
        let room : length (map (piece h w) (among cs)) ≤ 16 = rw (length-map, length-filter) (omega (arith, count_by-le-length p cs)) in
        take_all 16 (map (piece h w) (among cs)) room
        ∙ sym (map-map piece_of (λ c. (c.shape, child_sweep h w c)) (among cs))

  -- ---- whether there is a piece

  some_by : (c : Child) (cs : List Child) (r b : Bool) → eqb (length cs) 0 ≡ not r → eqb (length (cond b (c ∷ cs) cs)) 0 ≡ not (b || r)
  some_by c cs r true e = ne_eqb (length (c ∷ cs)) 0 (λ z. omega arith)
  some_by c cs r false e = e

  among_none : (cs : List Child) → eqb (length (among cs)) 0 ≡ not (has_proxy h cs)
  among_none [] = refl
  among_none (c ∷ cs) = some_by c (among cs) (has_proxy h cs) (is_proxy (h.kind c.shape)) (among_none cs)

  -- there are none exactly if no child is a piece
  pub pieces_none : (cs : List Child) → length cs ≤ 16 → eqb (length (pieces h w cs)) 0 ≡ not (has_proxy h cs)
  pieces_none cs few =
      ap (λ (ps : List FastSubShape). eqb (length ps) 0) (pieces_all cs few)
      ∙ simp length-map (among_none cs)
