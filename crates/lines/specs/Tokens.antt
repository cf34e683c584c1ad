-- The three kinds of field, and what a token says of its field. Assumes nothing.
use Rattle.std.specs.Prelude.{◌≡◌, ℕ, cond, List, [], ◌∷◌, Some, None, Option, MatchOption, nat_le}
use Rattle.lines.specs.declared.tokens.Kind.{Kind}
use Rattle.lines.specs.declared.tokens.Kind.TheVariants.{Letter, Number, Word}
use Rattle.lines.specs.declared.tokens.Token.{Token}
use Rattle.lines.specs.declared.fields.Fields.{Fields}
use Rattle.lines.specs.Fields.{Field, fields_from}
use Rattle.lines.specs.Numbers.{number_of}

-- the letter that bytes are: one byte from A to Z
abbrev pub letter_of : List ℕ → Option ℕ
letter_of [] = None
letter_of (b ∷ []) = cond (nat_le 65 b) (cond (nat_le b 90) (Some b) None) None
letter_of (b ∷ c ∷ cs) = None

-- the letter that the first of some fields is
abbrev pub first_letter : List Field → Option ℕ
first_letter [] = None
first_letter (f ∷ fs) = letter_of f.text

-- what bytes say: a letter, a number, or neither
abbrev pub KindOf : List ℕ → Kind → Type 0
KindOf text (Letter letter) = letter_of text ≡ Some letter
KindOf text (Number value) = (letter_of text ≡ None) × (number_of text ≡ Some value)
KindOf text Word = (letter_of text ≡ None) × (number_of text ≡ None)

-- the token is the field's: it borrows its bytes, has its offset, and names its kind
pub record TokenOf (f : Field) (t : Token) : Type 0 where
  pub text : t.text.now ≡ f.text
  pub at : t.at ≡ f.at
  pub kind : KindOf f.text t.kind

-- the fields that are still to come
abbrev pub to_come : Fields → List Field
to_come s = fields_from s.line.now s.at

-- one call of `next`: the first field as a token, and the others still to come
abbrev pub Next : List Field → Option Token → List Field → Type 0
Next fs r rest = MatchOption r ((fs ≡ []) × (rest ≡ [])) (λ t. (f : Field) × (fs ≡ f ∷ rest) × TokenOf f t)
