-- Where reading ends in a list of tokens.
use Rattle.std.proofs.Common.{◌≡◌, ℕ, zero, suc, ◌+◌, ◌-◌, ◌<◌, ◌≤◌, List, [], ◌∷◌, ◌++◌, length}
use Rattle.std.proofs.Common.{take, drop, map, refl, sym, ap, ◌∙◌, subst, append_assoc, append-nil}
use Rattle.std.proofs.Common.{arith, length-append, length-drop, Err, Bool}
use Rattle.prima_base.specs.declared.refusal.What.{What}
use Rattle.lexer_spec.specs.declared.token.Token.{Token}
use Rattle.lexer_combinators.specs.declared.fault.ParseFault.{ParseFault}
use Rattle.lexer_combinators.specs.declared.fault.ParseFault.TheVariants as fault
use Rattle.lexer_combinators.specs.declared.cursor.Stop.{Stop}
use Rattle.lexer_combinators.specs.declared.cursor.Stop.TheVariants as stop
use Rattle.lexer_combinators.specs.declared.cursor.Cursor.{Cursor}
use Rattle.lexer_combinators.specs.Reads.{ahead, Fails}
use Rattle.lexer_spec.specs.Lexemes.{Lexeme, lexeme}
use Rattle.lexer_combinators.specs.Parsing.{Out, Parsed, Unexpected, LimitExceeded, Parser, Same}
use Rattle.lexer_combinators.specs.Parsing.{Explains, Fine, Stops, CanGoOn, Valid, IsCorrectParser}
use Rattle.lexer_combinators.specs.Grammar.{Size}
use Rattle.lexer_combinators.specs.Found.{lexemes_from, place, Finds, Ends, IsFirst, AnswersAs}
use Rattle.lexer_combinators.specs.Found.{FaultAt}
use Rattle.lexer_spec.proofs.Cuts.{take_prefix, drop_prefix, drop_drop}

map_drop : {A B : Type 0} (f : A → B) (n : ℕ) (l : List A) → drop n (map f l) ≡ map f (drop n l)
map_drop f zero l = refl
map_drop f (suc n) [] = refl
map_drop f (suc n) (x ∷ l) = map_drop f n l

pub length_map : {A B : Type 0} (f : A → B) (l : List A) → length (map f l) ≡ length l
length_map f [] = refl
length_map f (x ∷ l) = ap suc (length_map f l)

module _ {A : Type 0} (p : Parser A) (G : A → Size → List Lexeme → Type 0) (follow : Lexeme → Bool)
    (correct : IsCorrectParser 0 32 p G follow) (list : List Token) (from : ℕ)
    (fits : from ≤ length list) where
  abbrev ts : List Lexeme
  ts = lexemes_from list from

  explained : (o : Out A) → p 0 ts ≡ o → Explains 32 (p 0) G 0 ts o
  explained o e = let P : Out A → Type 0 = λ o. Explains 32 (p 0) G 0 ts o in
      subst P e (correct.explains 0 (omega arith) ts)

  fine : (a : A) (s : Size) (prefix suffix : List Lexeme) → ts ≡ prefix ++ suffix → G a s prefix
      → Stops follow suffix → Fine 32 a s 0 suffix (p 0 ts)
  fine a s prefix suffix w h stops = let P : List Lexeme
      → Type 0 = λ l. Fine 32 a s 0 suffix (p 0 l) in
      subst P (sym w) (correct.complete 0 (omega arith) a s prefix suffix h stops)

  lengths : (prefix suffix : List Lexeme) → ts ≡ prefix ++ suffix
      → length list ≡ from + length prefix + length suffix
  lengths prefix suffix e = omega (
    arith,
    fits,
    length_map lexeme (drop from list),
    length-drop from list,
    ap length e,
    length-append prefix suffix,
  )

  rest_is : (prefix suffix : List Lexeme) (left : ℕ) → length suffix ≡ left → ts ≡ prefix ++ suffix
      → suffix ≡ lexemes_from list (length list - left)
  rest_is prefix suffix left z e =
      sym (drop_prefix prefix suffix) ∙ ap (drop (length prefix)) (sym e)
      ∙ map_drop lexeme (length prefix) (drop from list)
      ∙ ap (map lexeme) (drop_drop (length prefix) from list)
      ∙ (let k : from + length prefix ≡ length list - left =
      omega (arith, z, lengths prefix suffix e) in ap (λ n. map lexeme (drop n list)) k)

  taken : (prefix suffix : List Lexeme) (left : ℕ) → length suffix ≡ left → ts ≡ prefix ++ suffix
      → take (length list - left - from) ts ≡ prefix
  taken prefix suffix left z e = let k : length list - left - from ≡ length prefix =
      omega (arith, z, lengths prefix suffix e) in ap (λ n. take n ts) k
      ∙ ap (take (length prefix)) e ∙ take_prefix prefix suffix

  -- where it stands, by the first that is left
  split : (prefix : List Lexeme) (x : Lexeme) (suffix : List Lexeme) → ts ≡ prefix ++ x ∷ suffix
      → take (length prefix + 1) ts ≡ prefix ++ x ∷ []
  split prefix x suffix e =
      let k : length prefix + 1 ≡ length (prefix ++ x ∷ []) =
      omega (arith, length-append prefix (x ∷ [])) in
      ap (λ n. take n ts) k ∙ ap (take (length (prefix ++ x ∷ [])))
      (e ∙ sym (append_assoc prefix (x ∷ []) suffix)) ∙ take_prefix (prefix ++ x ∷ []) suffix

  -- however it goes on, reading ends there in the same way
  ends_there : (prefix : List Lexeme) (x : Lexeme) (make : List Lexeme → Out A)
      → ((other : List Lexeme) → p 0 (prefix ++ x ∷ other) ≡ make (x ∷ other))
      → (more : List Lexeme) (b : A) (s : Size) → G b s ((prefix ++ x ∷ []) ++ more)
      → Fine 32 b s 0 [] (make (x ∷ more))
  ends_there prefix x make same more b s h =
      let all : List Lexeme = (prefix ++ x ∷ []) ++ more in
      let P : Out A → Type 0 = λ o. Fine 32 b s 0 [] o in
      let Q : List Lexeme → Type 0 = λ l. Fine 32 b s 0 [] (p 0 l) in
      subst P (ap (p 0) (append_assoc prefix (x ∷ []) more) ∙ same more)
      (subst Q (append-nil all) (correct.complete 0 (omega arith) b s all [] h tt))

  -- ---- what was read

  module _ (a : A) (m : ℕ) (suffix : List Lexeme) (left : ℕ) (z : length suffix ≡ left)
      (e : p 0 ts ≡ Parsed a m suffix) where
    pub got_fits : left ≤ length list
    got_fits = let h = explained (Parsed a m suffix) e in omega (arith, z, lengths h.0 suffix h.2)

    -- nothing goes on with what stands after it
    got_ends : (prefix r : List Lexeme) → ts ≡ prefix ++ r → Same (p 0) prefix r (Parsed a m)
        → Ends G ts (length prefix)
    got_ends prefix [] w same k more = absurd
        (omega (arith, k, ap length w, length-append prefix []))
    got_ends prefix (x ∷ r) w same k more =
        let C : List Lexeme → Type 0 = λ l. CanGoOn G l in
        let on = subst C (split prefix x r w) more in
        let f = ends_there prefix x (Parsed a m) same on.0 on.1 on.2 on.3 in
        let e : x ∷ on.0 ≡ [] = f.1 in
        cc

    pub got_read : (from ≤ length list - left) × (length list - left ≤ length list) × (s : Size)
        × G a s (take (length list - left - from) ts) × (s.nodes ≤ 256) × Valid 32 s
        × Ends G ts (length list - left - from)
    got_read =
        let h = explained (Parsed a m suffix) e in
        let P : List Lexeme → Type 0 = λ l. G a h.1 l in
        let Q : ℕ → Type 0 = λ k. Ends G ts k in
        let n : length list - left - from ≡ length h.0 =
        omega (arith, z, lengths h.0 suffix h.2) in (
          omega (arith, z, lengths h.0 suffix h.2),
          omega arith,
          h.1,
          subst P (sym (taken h.0 suffix left z h.2)) h.3,
          omega (arith, h.4, h.5 (omega arith)),
          h.6,
          subst Q (sym n) (got_ends h.0 suffix h.2 h.7),
        )

    pub got_found : (b : A) (s : Size) (prefix other : List Lexeme) → ts ≡ prefix ++ other
        → Fine 32 b s 0 other (p 0 ts) → (a ≡ b) × (length list - left ≡ from + length prefix)
        × (s.nodes ≤ 256) × Valid 32 s
    got_found b s prefix other w found =
        let f = subst (Fine 32 b s 0 other) e found in (
          f.0,
          (let k : length suffix ≡ length other = ap length f.1 in
              omega (arith, z, k, lengths prefix other w)),
          (let h = explained (Parsed a m suffix) e in omega (arith, f.2, h.5 (omega arith))),
          f.3,
        )

    pub got_only : (b : A) (s : Size) (prefix other : List Lexeme) → ts ≡ prefix ++ other
        → G b s prefix → Stops follow other → (a ≡ b) × (length list - left ≡ from + length prefix)
        × (s.nodes ≤ 256) × Valid 32 s
    got_only b s prefix other w h stops = got_found b s prefix other w
        (fine b s prefix other w h stops)

    pub got_exact : p 0 ts ≡ Parsed a m (lexemes_from list (length list - left))
    got_exact = let h = explained (Parsed a m suffix) e in e
        ∙ ap (Parsed a m) (rest_is h.0 suffix left z h.2)

  -- ---- what was not

  stuck_fits : (c : ℕ) (suffix : List Lexeme) → p 0 ts ≡ Unexpected c suffix
      → length suffix ≤ length list
  stuck_fits c suffix e = let h = explained (Unexpected c suffix) e in
      omega (arith, lengths h.0 suffix h.1)

  over_fits : (w : What) (c : ℕ) (suffix : List Lexeme) → p 0 ts ≡ LimitExceeded w c suffix
      → length suffix ≤ length list
  over_fits w c suffix e = let h = explained (LimitExceeded w c suffix) e in
      omega (arith, lengths h.0 suffix h.1)

  stuck_first : (c : ℕ) (suffix : List Lexeme) → p 0 ts ≡ Unexpected c suffix → 0 < length suffix
      → IsFirst G ts (length ts - length suffix)
  stuck_first c [] e z = absurd (omega arith)
  stuck_first c (x ∷ suffix) e z =
      let h = explained (Unexpected c (x ∷ suffix)) e in
      let n : length ts - length (x ∷ suffix) ≡ length h.0 =
      omega (arith, ap length h.1, length-append h.0 (x ∷ suffix)) in
      let P : ℕ → Type 0 = λ k. IsFirst G ts k in
      let C : List Lexeme → Type 0 = λ l. CanGoOn G l in
      subst P (sym n) (
        omega (arith, ap length h.1, length-append h.0 (x ∷ suffix)),
        subst C (sym (ap (take (length h.0)) h.1 ∙ take_prefix h.0 (x ∷ suffix))) h.2,
        λ z more. let k = subst C (split h.0 x suffix h.1) more in
            ends_there h.0 x (Unexpected c) h.3 k.0 k.1 k.2 k.3,
      )

  stuck_out : (c : ℕ) (suffix : List Lexeme) → p 0 ts ≡ Unexpected c suffix → length suffix ≡ 0
      → CanGoOn G ts
  stuck_out c [] e z = let h = explained (Unexpected c []) e in let P : List Lexeme
      → Type 0 = λ l. CanGoOn G l in subst P (sym (h.1 ∙ append-nil h.0)) h.2
  stuck_out c (x ∷ suffix) e z = absurd (omega (arith, z))

  over_some : (w : What) (c : ℕ) (suffix : List Lexeme) → p 0 ts ≡ LimitExceeded w c suffix
      → 0 < length suffix
  over_some w c [] e = let h = explained (LimitExceeded w c []) e in absurd h.2
  over_some w c (x ∷ suffix) e = omega arith

  where_it_is : (suffix : List Lexeme) → length suffix ≤ length ts
      → length list - length suffix ≡ from + (length ts - length suffix)
  where_it_is suffix h = omega (
    arith,
    h,
    fits,
    length_map lexeme (drop from list),
    length-drop from list,
  )

  in_ts : (prefix suffix : List Lexeme) → ts ≡ prefix ++ suffix → length suffix ≤ length ts
  in_ts prefix suffix e = omega (arith, ap length e, length-append prefix suffix)

  module _ (cur : Cursor) where
    abbrev left : ℕ
    left = length cur.rest.now

    same_left : length (ahead cur) ≡ left
    same_left = length_map lexeme cur.rest.now

    pub err_fits : (why : Stop) → Fails (p 0 ts) why cur → why ≡ stop.Unexpected
        → left ≤ length list
    err_fits stop.NoMemory f e = let n : stop.NoMemory ≡ stop.Unexpected = e in cc
    err_fits stop.Unexpected f e = omega (arith, same_left, stuck_fits cur.nodes (ahead cur) f)
    err_fits (stop.TooMany w) f e = omega (arith, same_left, over_fits w cur.nodes (ahead cur) f)

    module _ {X : Type 0} (view : X → A) where
      pub err_found : (why : Stop) (f : ParseFault) → Fails (p 0 ts) why cur
          → FaultAt why list left f → (b : A) (s : Size) (prefix suffix : List Lexeme)
          → Fine 32 b s 0 suffix (p 0 ts) → Finds view b s (from + length prefix) (Err f)
      err_found stop.NoMemory f h k b s prefix suffix found = let P : ParseFault
          → Type 0 = λ v. Finds view b s (from + length prefix) (Err v) in subst P (sym k) tt
      err_found stop.Unexpected (fault.Syntax at) h k b s prefix suffix found =
          subst (Fine 32 b s 0 suffix) h found
      err_found stop.Unexpected fault.RanOut h k b s prefix suffix found =
          subst (Fine 32 b s 0 suffix) h found
      err_found stop.Unexpected fault.NoMemory h k b s prefix suffix found = tt
      err_found stop.Unexpected (fault.TooMany v m) h k b s prefix suffix found = absurd k
      err_found (stop.TooMany v) f h k b s prefix suffix found = let P : ParseFault
          → Type 0 = λ u. Finds view b s (from + length prefix) (Err u) in
          subst P (sym k) (subst (Fine 32 b s 0 suffix) h found)

      pub err_only : (why : Stop) (f : ParseFault) → Fails (p 0 ts) why cur
          → FaultAt why list left f → (b : A) (s : Size) (prefix suffix : List Lexeme)
          → ts ≡ prefix ++ suffix → G b s prefix → Stops follow suffix
          → Finds view b s (from + length prefix) (Err f)
      err_only why f h k b s prefix suffix w g stops =
          err_found why f h k b s prefix suffix (fine b s prefix suffix w g stops)

    module _ {X : Type 0} (view : X → A) where
      pub err_exact : (why : Stop) (f : ParseFault) → Fails (p 0 ts) why cur
          → FaultAt why list left f → AnswersAs view (p 0 ts) list (Err f)
      err_exact stop.NoMemory f h k = let P : ParseFault
          → Type 0 = λ v. AnswersAs view (p 0 ts) list (Err v) in subst P (sym k) tt
      err_exact stop.Unexpected (fault.Syntax at) h k =
          let x = explained (Unexpected cur.nodes (ahead cur)) h in (
            length list - left,
            omega (arith, k.0, same_left, stuck_fits cur.nodes (ahead cur) h),
            k.1,
            cur.nodes,
            h ∙ ap (Unexpected cur.nodes)
                (rest_is x.0 (ahead cur) left same_left x.1),
          )
      err_exact stop.Unexpected fault.RanOut h k =
          let x = explained (Unexpected cur.nodes (ahead cur)) h in (
            cur.nodes,
            h ∙ ap (Unexpected cur.nodes)
                (rest_is x.0 (ahead cur) left same_left x.1
                ∙ (let e : length list - left ≡ length list = omega (arith, k) in
                ap (lexemes_from list) e)),
          )
      err_exact stop.Unexpected fault.NoMemory h k = tt
      err_exact stop.Unexpected (fault.TooMany v m) h k = absurd k
      err_exact (stop.TooMany v) f h k =
          let x = explained (LimitExceeded v cur.nodes (ahead cur)) h in
          let P : ParseFault → Type 0 = λ u. AnswersAs view (p 0 ts) list (Err u) in
          subst P (sym k) (
            refl,
            length list - left,
            omega (
              arith,
              same_left,
              over_fits v cur.nodes (ahead cur) h,
              over_some v cur.nodes (ahead cur) h,
            ),
            cur.nodes,
            h
                ∙ ap (LimitExceeded v cur.nodes) (rest_is x.0 (ahead cur) left same_left x.1),
          )

  -- ---- a fault that is no count

  module _ (cur : Cursor) where
    pub err_syntax : (why : Stop) (f : ParseFault) → Fails (p 0 ts) why cur
        → FaultAt why list (length cur.rest.now) f → (at : ℕ) → f ≡ fault.Syntax at
        → why ≡ stop.Unexpected → (k : ℕ) × (at ≡ place list (from + k)) × IsFirst G ts k
    err_syntax why f h k at e i =
        let fails : p 0 ts ≡ Unexpected cur.nodes (ahead cur) =
        (let P : Stop → Type 0 = λ w. Fails (p 0 ts) w cur in subst P i h) in
        let found : FaultAt stop.Unexpected list (length cur.rest.now) (fault.Syntax at) =
        (let P : Stop → Type 0 = λ w. FaultAt w list (length cur.rest.now) (fault.Syntax at) in
        let Q : ParseFault → Type 0 = λ v. FaultAt why list (length cur.rest.now) v in
        subst P i (subst Q e k)) in
        let x = explained (Unexpected cur.nodes (ahead cur)) fails in (
          length ts - length (ahead cur),
          found.1
              ∙ ap (place list) (ap (λ n. length list - n) (sym (same_left cur))
              ∙ where_it_is (ahead cur) (in_ts x.0 (ahead cur) x.1)),
          stuck_first cur.nodes (ahead cur) fails (omega (arith, same_left cur, found.0)),
        )

    pub err_ran_out : (why : Stop) (f : ParseFault) → Fails (p 0 ts) why cur
        → FaultAt why list (length cur.rest.now) f → f ≡ fault.RanOut → why ≡ stop.Unexpected
        → CanGoOn G ts
    err_ran_out why f h k e i =
        let fails : p 0 ts ≡ Unexpected cur.nodes (ahead cur) =
        (let P : Stop → Type 0 = λ w. Fails (p 0 ts) w cur in subst P i h) in
        let found : length cur.rest.now ≡ 0 =
        (let P : Stop → Type 0 = λ w. FaultAt w list (length cur.rest.now) fault.RanOut in
        let Q : ParseFault → Type 0 = λ v. FaultAt why list (length cur.rest.now) v in
        subst P i (subst Q e k)) in
        stuck_out cur.nodes (ahead cur) fails (same_left cur ∙ found)
