-- Where none of the other rules of a symbol is left, the last one is.
use Rattle.std.proofs.Common.{◌≡◌, ◌≢◌, ℕ, [], ◌∷◌, inl, inr}
use Rattle.c_parser.specs.Parses.{IsOneOf}

pub last_Spec : (n : ℕ) → n ≢ 13 → n ≢ 14 → n ≢ 15 → n ≢ 16 → n ≢ 17 → n ≢ 18 → n ≢ 19 → n ≢ 20 → n ≢ 21 → n ≢ 22 → n ≢ 23 → IsOneOf n (13 ∷ 14 ∷ 15 ∷ 16 ∷ 17 ∷ 18 ∷ 19 ∷ 20 ∷ 21 ∷ 22 ∷ 23 ∷ 24 ∷ []) → n ≡ 24
last_Spec n n13 n14 n15 n16 n17 n18 n19 n20 n21 n22 n23 (inl e) = absurd (n13 e)
last_Spec n n13 n14 n15 n16 n17 n18 n19 n20 n21 n22 n23 (inr (inl e)) = absurd (n14 e)
last_Spec n n13 n14 n15 n16 n17 n18 n19 n20 n21 n22 n23 (inr (inr (inl e))) = absurd (n15 e)
last_Spec n n13 n14 n15 n16 n17 n18 n19 n20 n21 n22 n23 (inr (inr (inr (inl e)))) = absurd (n16 e)
last_Spec n n13 n14 n15 n16 n17 n18 n19 n20 n21 n22 n23 (inr (inr (inr (inr (inl e))))) = absurd (n17 e)
last_Spec n n13 n14 n15 n16 n17 n18 n19 n20 n21 n22 n23 (inr (inr (inr (inr (inr (inl e)))))) = absurd (n18 e)
last_Spec n n13 n14 n15 n16 n17 n18 n19 n20 n21 n22 n23 (inr (inr (inr (inr (inr (inr (inl e))))))) = absurd (n19 e)
last_Spec n n13 n14 n15 n16 n17 n18 n19 n20 n21 n22 n23 (inr (inr (inr (inr (inr (inr (inr (inl e)))))))) = absurd (n20 e)
last_Spec n n13 n14 n15 n16 n17 n18 n19 n20 n21 n22 n23 (inr (inr (inr (inr (inr (inr (inr (inr (inl e))))))))) = absurd (n21 e)
last_Spec n n13 n14 n15 n16 n17 n18 n19 n20 n21 n22 n23 (inr (inr (inr (inr (inr (inr (inr (inr (inr (inl e)))))))))) = absurd (n22 e)
last_Spec n n13 n14 n15 n16 n17 n18 n19 n20 n21 n22 n23 (inr (inr (inr (inr (inr (inr (inr (inr (inr (inr (inl e))))))))))) = absurd (n23 e)
last_Spec n n13 n14 n15 n16 n17 n18 n19 n20 n21 n22 n23 (inr (inr (inr (inr (inr (inr (inr (inr (inr (inr (inr (inl e)))))))))))) = e
last_Spec n n13 n14 n15 n16 n17 n18 n19 n20 n21 n22 n23 (inr (inr (inr (inr (inr (inr (inr (inr (inr (inr (inr (inr e)))))))))))) = absurd e

pub last_Statement : (n : ℕ) → n ≢ 68 → n ≢ 69 → n ≢ 70 → n ≢ 71 → n ≢ 72 → n ≢ 73 → n ≢ 74 → n ≢ 75 → n ≢ 76 → n ≢ 77 → IsOneOf n (68 ∷ 69 ∷ 70 ∷ 71 ∷ 72 ∷ 73 ∷ 74 ∷ 75 ∷ 76 ∷ 77 ∷ 169 ∷ []) → n ≡ 169
last_Statement n n68 n69 n70 n71 n72 n73 n74 n75 n76 n77 (inl e) = absurd (n68 e)
last_Statement n n68 n69 n70 n71 n72 n73 n74 n75 n76 n77 (inr (inl e)) = absurd (n69 e)
last_Statement n n68 n69 n70 n71 n72 n73 n74 n75 n76 n77 (inr (inr (inl e))) = absurd (n70 e)
last_Statement n n68 n69 n70 n71 n72 n73 n74 n75 n76 n77 (inr (inr (inr (inl e)))) = absurd (n71 e)
last_Statement n n68 n69 n70 n71 n72 n73 n74 n75 n76 n77 (inr (inr (inr (inr (inl e))))) = absurd (n72 e)
last_Statement n n68 n69 n70 n71 n72 n73 n74 n75 n76 n77 (inr (inr (inr (inr (inr (inl e)))))) = absurd (n73 e)
last_Statement n n68 n69 n70 n71 n72 n73 n74 n75 n76 n77 (inr (inr (inr (inr (inr (inr (inl e))))))) = absurd (n74 e)
last_Statement n n68 n69 n70 n71 n72 n73 n74 n75 n76 n77 (inr (inr (inr (inr (inr (inr (inr (inl e)))))))) = absurd (n75 e)
last_Statement n n68 n69 n70 n71 n72 n73 n74 n75 n76 n77 (inr (inr (inr (inr (inr (inr (inr (inr (inl e))))))))) = absurd (n76 e)
last_Statement n n68 n69 n70 n71 n72 n73 n74 n75 n76 n77 (inr (inr (inr (inr (inr (inr (inr (inr (inr (inl e)))))))))) = absurd (n77 e)
last_Statement n n68 n69 n70 n71 n72 n73 n74 n75 n76 n77 (inr (inr (inr (inr (inr (inr (inr (inr (inr (inr (inl e))))))))))) = e
last_Statement n n68 n69 n70 n71 n72 n73 n74 n75 n76 n77 (inr (inr (inr (inr (inr (inr (inr (inr (inr (inr (inr e))))))))))) = absurd e

pub last_Unary : (n : ℕ) → n ≢ 93 → n ≢ 94 → n ≢ 95 → n ≢ 96 → IsOneOf n (93 ∷ 94 ∷ 95 ∷ 96 ∷ 97 ∷ []) → n ≡ 97
last_Unary n n93 n94 n95 n96 (inl e) = absurd (n93 e)
last_Unary n n93 n94 n95 n96 (inr (inl e)) = absurd (n94 e)
last_Unary n n93 n94 n95 n96 (inr (inr (inl e))) = absurd (n95 e)
last_Unary n n93 n94 n95 n96 (inr (inr (inr (inl e)))) = absurd (n96 e)
last_Unary n n93 n94 n95 n96 (inr (inr (inr (inr (inl e))))) = e
last_Unary n n93 n94 n95 n96 (inr (inr (inr (inr (inr e))))) = absurd e

pub last_Postfixes : (n : ℕ) → n ≢ 100 → n ≢ 101 → n ≢ 102 → n ≢ 103 → n ≢ 104 → n ≢ 105 → IsOneOf n (100 ∷ 101 ∷ 102 ∷ 103 ∷ 104 ∷ 105 ∷ 106 ∷ []) → n ≡ 106
last_Postfixes n n100 n101 n102 n103 n104 n105 (inl e) = absurd (n100 e)
last_Postfixes n n100 n101 n102 n103 n104 n105 (inr (inl e)) = absurd (n101 e)
last_Postfixes n n100 n101 n102 n103 n104 n105 (inr (inr (inl e))) = absurd (n102 e)
last_Postfixes n n100 n101 n102 n103 n104 n105 (inr (inr (inr (inl e)))) = absurd (n103 e)
last_Postfixes n n100 n101 n102 n103 n104 n105 (inr (inr (inr (inr (inl e))))) = absurd (n104 e)
last_Postfixes n n100 n101 n102 n103 n104 n105 (inr (inr (inr (inr (inr (inl e)))))) = absurd (n105 e)
last_Postfixes n n100 n101 n102 n103 n104 n105 (inr (inr (inr (inr (inr (inr (inl e))))))) = e
last_Postfixes n n100 n101 n102 n103 n104 n105 (inr (inr (inr (inr (inr (inr (inr e))))))) = absurd e

pub last_Primary : (n : ℕ) → n ≢ 111 → n ≢ 112 → IsOneOf n (111 ∷ 112 ∷ 113 ∷ []) → n ≡ 113
last_Primary n n111 n112 (inl e) = absurd (n111 e)
last_Primary n n111 n112 (inr (inl e)) = absurd (n112 e)
last_Primary n n111 n112 (inr (inr (inl e))) = e
last_Primary n n111 n112 (inr (inr (inr e))) = absurd e

pub last_ForInit : (n : ℕ) → n ≢ 80 → n ≢ 81 → IsOneOf n (80 ∷ 81 ∷ 82 ∷ []) → n ≡ 82
last_ForInit n n80 n81 (inl e) = absurd (n80 e)
last_ForInit n n80 n81 (inr (inl e)) = absurd (n81 e)
last_ForInit n n80 n81 (inr (inr (inl e))) = e
last_ForInit n n80 n81 (inr (inr (inr e))) = absurd e

pub last_AssignOp : (n : ℕ) → n ≢ 114 → n ≢ 115 → n ≢ 116 → n ≢ 117 → n ≢ 118 → n ≢ 119 → n ≢ 120 → n ≢ 121 → n ≢ 122 → n ≢ 123 → IsOneOf n (114 ∷ 115 ∷ 116 ∷ 117 ∷ 118 ∷ 119 ∷ 120 ∷ 121 ∷ 122 ∷ 123 ∷ 124 ∷ []) → n ≡ 124
last_AssignOp n n114 n115 n116 n117 n118 n119 n120 n121 n122 n123 (inl e) = absurd (n114 e)
last_AssignOp n n114 n115 n116 n117 n118 n119 n120 n121 n122 n123 (inr (inl e)) = absurd (n115 e)
last_AssignOp n n114 n115 n116 n117 n118 n119 n120 n121 n122 n123 (inr (inr (inl e))) = absurd (n116 e)
last_AssignOp n n114 n115 n116 n117 n118 n119 n120 n121 n122 n123 (inr (inr (inr (inl e)))) = absurd (n117 e)
last_AssignOp n n114 n115 n116 n117 n118 n119 n120 n121 n122 n123 (inr (inr (inr (inr (inl e))))) = absurd (n118 e)
last_AssignOp n n114 n115 n116 n117 n118 n119 n120 n121 n122 n123 (inr (inr (inr (inr (inr (inl e)))))) = absurd (n119 e)
last_AssignOp n n114 n115 n116 n117 n118 n119 n120 n121 n122 n123 (inr (inr (inr (inr (inr (inr (inl e))))))) = absurd (n120 e)
last_AssignOp n n114 n115 n116 n117 n118 n119 n120 n121 n122 n123 (inr (inr (inr (inr (inr (inr (inr (inl e)))))))) = absurd (n121 e)
last_AssignOp n n114 n115 n116 n117 n118 n119 n120 n121 n122 n123 (inr (inr (inr (inr (inr (inr (inr (inr (inl e))))))))) = absurd (n122 e)
last_AssignOp n n114 n115 n116 n117 n118 n119 n120 n121 n122 n123 (inr (inr (inr (inr (inr (inr (inr (inr (inr (inl e)))))))))) = absurd (n123 e)
last_AssignOp n n114 n115 n116 n117 n118 n119 n120 n121 n122 n123 (inr (inr (inr (inr (inr (inr (inr (inr (inr (inr (inl e))))))))))) = e
last_AssignOp n n114 n115 n116 n117 n118 n119 n120 n121 n122 n123 (inr (inr (inr (inr (inr (inr (inr (inr (inr (inr (inr e))))))))))) = absurd e

pub last_UnaryOp : (n : ℕ) → n ≢ 125 → n ≢ 126 → n ≢ 127 → n ≢ 128 → n ≢ 129 → IsOneOf n (125 ∷ 126 ∷ 127 ∷ 128 ∷ 129 ∷ 130 ∷ []) → n ≡ 130
last_UnaryOp n n125 n126 n127 n128 n129 (inl e) = absurd (n125 e)
last_UnaryOp n n125 n126 n127 n128 n129 (inr (inl e)) = absurd (n126 e)
last_UnaryOp n n125 n126 n127 n128 n129 (inr (inr (inl e))) = absurd (n127 e)
last_UnaryOp n n125 n126 n127 n128 n129 (inr (inr (inr (inl e)))) = absurd (n128 e)
last_UnaryOp n n125 n126 n127 n128 n129 (inr (inr (inr (inr (inl e))))) = absurd (n129 e)
last_UnaryOp n n125 n126 n127 n128 n129 (inr (inr (inr (inr (inr (inl e)))))) = e
last_UnaryOp n n125 n126 n127 n128 n129 (inr (inr (inr (inr (inr (inr e)))))) = absurd e
