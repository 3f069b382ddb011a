-- Quoted scalars on one line (YAML 1.2, sections 7.3.1, 7.3.2 and 5.7, with the escapes of this subset).
use Rattle.std.specs.Prelude.{ℕ, zero, suc, ◌+◌, ◌*◌, ◌/◌, ◌%◌, ◌-◌, ◌++◌, Bool, ◌||◌, ◌&&◌, List, [], ◌∷◌, Option, Some, None, ◌==◌, nat_lt, nat_le, if◌then◌else◌}

-- The text between quotes, and what comes after the closing one.
pub record Quote : Type 0 where
  pub text : List ℕ
  pub rest : List ℕ

-- more bytes at the front of the text
abbrev pub with_bytes : List ℕ → Option Quote → Option Quote
with_bytes bs None = None
with_bytes bs (Some q) = Some (record { text = bs ++ q.text; rest = q.rest })

-- The place in the text: between characters, after a single quote that may be the last, after a backslash, or among
-- hexadecimal digits.
pub data Place : Type 0 where
  Between : Place
  AtQuote : Place
  Escaped : Place
  -- how many digits are missing, and the number so far
  Digits : ℕ → ℕ → Place

-- What a byte does there: it ends the text (with what comes after it), it isn't allowed there, or it adds bytes and
-- leads to a place.
pub data Step : Type 0 where
  Ends : List ℕ → Step
  Fails : Step
  Adds : List ℕ → Place → Step

-- between single quotes, where a quote is doubled
abbrev pub single : Place → ℕ → List ℕ → Step
single AtQuote c cs = if c == 39 then Adds (39 ∷ []) Between else Ends (c ∷ cs)
single m c cs = if c == 39 then Adds [] AtQuote else Adds (c ∷ []) Between

-- the number of a hexadecimal digit, in either case
abbrev pub hex_digit : ℕ → Option ℕ
hex_digit c = if nat_le 48 c && nat_le c 57 then Some (c - 48) else (if nat_le 65 c && nat_le c 70 then Some (c - 55) else (if nat_le 97 c && nat_le c 102 then Some (c - 87) else None))

-- a character below 65,536 in UTF-8
abbrev pub utf8 : ℕ → List ℕ
utf8 n = if nat_lt n 128 then (n ∷ []) else (if nat_lt n 2048 then ((192 + n / 64) ∷ (128 + n % 64) ∷ []) else ((224 + n / 4096) ∷ (128 + (n / 64) % 64) ∷ (128 + n % 64) ∷ []))

-- U+D800 to U+DFFF are no characters
abbrev pub is_surrogate : ℕ → Bool
is_surrogate n = nat_le 55296 n && nat_lt n 57344

-- the character of this number is added
abbrev pub character : ℕ → Step
character n = if is_surrogate n then Fails else Adds (utf8 n) Between

-- one more digit; the last one gives the character
abbrev pub digit : ℕ → ℕ → Option ℕ → Step
digit k n None = Fails
digit zero n (Some x) = Fails
digit (suc zero) n (Some x) = character (n * 16 + x)
digit (suc (suc k)) n (Some x) = Adds [] (Digits (suc k) (n * 16 + x))

-- the byte of a letter after a backslash: \" \\ \/ \0 \a \b \t \n \v \f \r \e
abbrev pub letter_of : ℕ → Option ℕ
letter_of c =
    if (c == 34) || ((c == 92) || (c == 47)) then Some c
    else (if c == 48 then Some 0
    else (if c == 97 then Some 7
    else (if c == 98 then Some 8
    else (if c == 116 then Some 9
    else (if c == 110 then Some 10
    else (if c == 118 then Some 11
    else (if c == 102 then Some 12
    else (if c == 114 then Some 13
    else (if c == 101 then Some 27 else None)))))))))

-- a letter adds its byte
abbrev pub letter : Option ℕ → Step
letter None = Fails
letter (Some b) = Adds (b ∷ []) Between

-- what may come after a backslash: \xHH, \uHHHH or a letter
abbrev pub escape : ℕ → Step
escape c = if c == 120 then Adds [] (Digits 2 0) else (if c == 117 then Adds [] (Digits 4 0) else letter (letter_of c))

-- between double quotes
abbrev pub double : Place → ℕ → List ℕ → Step
double Escaped c cs = escape c
double (Digits k n) c cs = digit k n (hex_digit c)
double m c cs = if c == 34 then Ends cs else (if c == 92 then Adds [] Escaped else Adds (c ∷ []) Between)

-- a step, and the text of the rest of the line from the place to which it leads
abbrev pub act : Step → (Place → Option Quote) → Option Quote
act (Ends rest) f = Some (record { text = []; rest = rest })
act Fails f = None
act (Adds bs m) f = with_bytes bs (f m)

-- the line ends: only a single quote before it closes the text
abbrev pub at_end : Place → Option Quote
at_end AtQuote = Some (record { text = []; rest = [] })
at_end m = None

-- the text from a place on, by what each byte does
abbrev pub inside : (Place → ℕ → List ℕ → Step) → Place → List ℕ → Option Quote
inside step m [] = at_end m
inside step m (c ∷ cs) = act (step m c cs) (λ n. inside step n cs)

-- a quoted scalar at the front
abbrev pub quote_of : List ℕ → Option Quote
quote_of [] = None
quote_of (c ∷ cs) = if c == 39 then inside single Between cs else (if c == 34 then inside double Between cs else None)

-- the text after digits of which k are missing, where the number so far is n
abbrev pub digits_from : ℕ → ℕ → List ℕ → Option Quote
digits_from zero n cs = act (character n) (λ m. inside double m cs)
digits_from (suc k) n cs = inside double (Digits (suc k) n) cs
