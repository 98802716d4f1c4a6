-- What some lines say.
use Rattle.std.proofs.Common.{◌≡◌, [], ◌∷◌, codes, refl, pos, neg_ℤ, Some, None, map, ◌*◌, ◌^◌}
use Rattle.cert_read.specs.Lines.{lines_of}
use Rattle.cover_line.specs.Line.{no_factor, bound_of, make_false, cut, combine, void_combine, void_squares, either}
use Rattle.cert_read.specs.CertLine.{parsed, line, bad_line, bad_number, rule_line, version, margin, delta, bound, lower, over, cover, tree_word, end_word, real_interval, yes_list, no_list, bool_value, says_both}

whole_certificate : map parsed (lines_of (codes "dpoly 1\nmargin 20\ndelta 10\nbound none\ncover 0\ntree\nfalse\nend\n")) ≡
    (line (version 1) ∷ line (margin 20) ∷ line (delta 10) ∷ line (bound None) ∷ line (cover 0) ∷ line tree_word ∷ line (rule_line make_false) ∷ line end_word ∷ [])
whole_certificate = refl

numbers : map parsed (lines_of (codes "margin 020\ncut 1 1b-1\nreal 0 1b0\nyes 4\nno\nreal 2b-1 0\nreal 1b123 0\nreal -3b-2 5b0\ncover 4294967296\ncover 4294967295\nlemma -1")) ≡
    (bad_number ∷ line (rule_line (cut 1 (record { units = pos (2 ^ 119) }))) ∷ line (real_interval (record { units = pos 0 }) (record { units = pos (2 ^ 120) })) ∷
    line (yes_list (4 ∷ [])) ∷ line (no_list []) ∷ bad_number ∷ bad_number ∷
    line (real_interval (record { units = neg_ℤ (pos (3 * 2 ^ 118)) }) (record { units = pos (5 * 2 ^ 120) })) ∷ bad_number ∷ line (cover 4294967295) ∷ bad_number ∷ [])
numbers = refl

forms : map parsed (lines_of (codes "pull  4\n\nbool both\nbool x\n pull 4\npull 4 \nreal\nreal 0 0 0\nshove 4\nempty\nyes 1 x")) ≡
    (bad_line ∷ bad_line ∷ line (bool_value says_both) ∷ bad_line ∷ bad_line ∷ bad_line ∷ bad_line ∷ bad_line ∷ bad_line ∷ bad_line ∷ bad_number ∷ [])
forms = refl

combinations : map parsed (lines_of (codes "comb 0 1b0\nvoidcomb 7 -3b-2 2 1b-1\ncomb\ncomb 1\ncomb 1 1b0 2\ncomb 1b0 1\nvoidcomb 1 2b0\nvoidcomb 01 1b0 x\n")) ≡
    (line (rule_line (combine ((0, record { units = pos (2 ^ 120) }) ∷ []))) ∷
    line (rule_line (void_combine ((7, record { units = neg_ℤ (pos (3 * 2 ^ 118)) }) ∷ (2, record { units = pos (2 ^ 119) }) ∷ []))) ∷
    bad_line ∷ bad_line ∷ bad_line ∷ bad_number ∷ bad_number ∷ bad_line ∷ [])
combinations = refl

lower_bounds : map parsed (lines_of (codes "lower none\nlower 1b-1\nlower -3b-2\nlower 2b-1\nlower\nlower none 0\nover\nover 0")) ≡
    (line (lower None) ∷ line (lower (Some (record { units = pos (2 ^ 119) }))) ∷ line (lower (Some (record { units = neg_ℤ (pos (3 * 2 ^ 118)) }))) ∷ bad_number ∷ bad_line ∷ bad_line ∷ line over ∷ bad_line ∷ [])
lower_bounds = refl

squares : map parsed (lines_of (codes "voidpos 1 4 1b0 0 2 1 0 1 1 1b0 -1b0 0\nvoidpos 1 4 1b0 2 1 0 1b0\nvoidpos 1 4 1b0 0 1 0 2b0\nvoidpos 0\nvoidpos\nvoidpos 1 4\nvoidpos 0 1 3 1 2 3 3 1b0")) ≡
    (line (rule_line (void_squares ((4, record { units = pos (2 ^ 120) }) ∷ []) (record {
      factor = no_factor;
      monomials = (0 ∷ []) ∷ (1 ∷ []) ∷ [];
      rows = (record { units = pos (2 ^ 120) } ∷ record { units = neg_ℤ (pos (2 ^ 120)) } ∷ []) ∷ (record { units = pos 0 } ∷ []) ∷ [];
    } ∷ []))) ∷
    bad_line ∷ bad_number ∷ line (rule_line (void_squares [] [])) ∷ bad_line ∷ bad_line ∷
    line (rule_line (void_squares [] (record { factor = bound_of 3; monomials = (3 ∷ 3 ∷ []) ∷ []; rows = (record { units = pos (2 ^ 120) } ∷ []) ∷ [] } ∷ []))) ∷ [])
squares = refl

groups : map parsed (lines_of (codes "either 1 4 5\neither 2 0 1 2 3 7\neither 1 4\neither 0\neither\neither 2 4\neither 2 4 x\neither 1 4 05\neither 4294967296 4")) ≡
    (line (rule_line (either (4 ∷ []) (5 ∷ []))) ∷ line (rule_line (either (0 ∷ 1 ∷ []) (2 ∷ 3 ∷ 7 ∷ []))) ∷ line (rule_line (either (4 ∷ []) [])) ∷ line (rule_line (either [] [])) ∷
    bad_line ∷ bad_line ∷ bad_number ∷ bad_number ∷ bad_number ∷ [])
groups = refl
