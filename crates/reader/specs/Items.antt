-- The grammar of items: what bytes are an item of each kind, where others follow.
use Rattle.std.specs.Prelude.{◌≡◌, ℕ, ◌+◌, ◌-◌, ◌<◌, Bool, true, false, not, ◌&&◌, ◌||◌, ◌⊎◌, List, [], ◌∷◌, ◌++◌, length, ◌==◌, nat_eq, nat_lt}
use Rattle.reader.specs.declared.item.Kind.{Kind}
use Rattle.reader.specs.declared.item.Kind.TheVariants.{Text, Control, Escape, Sequence, String, Broken, Rest}
use Rattle.reader.specs.Bytes.{among, is_graphic, is_intermediate, is_parameter, ends_escape, ends_sequence, is_opener, is_body, AllOf, Stops}

-- a C1 control, in its 8-bit form or as ESC and the byte 64 lower
abbrev pub Spells : ℕ → List ℕ → Type 0
Spells k c = (c ≡ k ∷ []) ⊎ (c ≡ 0x1B ∷ (k - 64) ∷ [])

-- whether the bytes begin with that control, in either form
abbrev pub begins : ℕ → List ℕ → Bool
begins k [] = false
begins k (b ∷ []) = b == k
begins k (b ∷ c ∷ bs) = b == k || (b == 0x1B && c == k - 64)

-- CSI, SOS and the openers of command strings begin an item of several bytes
abbrev pub is_beginning : ℕ → Bool
is_beginning b = is_opener b || (b == 0x98 || b == 0x9B)

-- the other controls are items by themselves: C0 but ESC, DEL, and C1 but those
abbrev pub is_lone : ℕ → Bool
is_lone b = (nat_lt b 0x20 && not (b == 0x1B)) || (among 0x7F 0x9F b && not (is_beginning b))

-- the body of an SOS string: neither ST nor SOS begins in it
abbrev pub Free : List ℕ → Type 0
Free [] = Unit {0}
Free (b ∷ bs) = (begins 0x9C (b ∷ bs) ≡ false) × (begins 0x98 (b ∷ bs) ≡ false) × Free bs

-- ESC, intermediates and a final byte
pub record Escaped (x : List ℕ) : Type 0 where
  pub between : List ℕ
  pub final : ℕ
  pub spelled : x ≡ 0x1B ∷ (between ++ final ∷ [])
  pub intermediate : AllOf is_intermediate between
  pub ends : ends_escape final ≡ true
  -- where nothing stands between, a final byte that stands for CSI, SOS or an opener begins another kind
  pub alone : between ≡ [] → is_beginning (final + 64) ≡ false

-- CSI, parameter bytes, intermediates and a final byte
pub record Sequenced (x : List ℕ) : Type 0 where
  pub csi : List ℕ
  pub parameters : List ℕ
  pub between : List ℕ
  pub final : ℕ
  pub spelled : x ≡ csi ++ (parameters ++ (between ++ final ∷ []))
  pub opens : Spells 0x9B csi
  pub parameter : AllOf is_parameter parameters
  pub intermediate : AllOf is_intermediate between
  pub ends : ends_sequence final ≡ true

-- an opener, a body and ST
pub record Enclosed (opening : ℕ → Bool) (Within : List ℕ → Type 0) (x : List ℕ) : Type 0 where
  pub by : ℕ
  pub opener : List ℕ
  pub body : List ℕ
  pub st : List ℕ
  pub spelled : x ≡ opener ++ (body ++ st)
  pub known : opening by ≡ true
  pub opens : Spells by opener
  pub within : Within body
  pub ends : Spells 0x9C st

-- an escape, a sequence or a string that has no end yet
pub data Begun (x : List ℕ) : Type 0 where
  escape : (is : List ℕ) → AllOf is_intermediate is → x ≡ 0x1B ∷ is → Begun x
  sequence : (c ps is : List ℕ) → Spells 0x9B c → AllOf is_parameter ps → AllOf is_intermediate is → x ≡ c ++ (ps ++ is) → Begun x
  string : (k : ℕ) (c body : List ℕ) → is_opener k ≡ true → Spells k c → AllOf is_body body → x ≡ c ++ body → Begun x
  sos : (c body : List ℕ) → Spells 0x98 c → Free body → x ≡ c ++ body → Begun x

-- what follows does not fit; in a string, an ESC needs the byte behind it to tell
abbrev pub Cuts : {x : List ℕ} → Begun x → List ℕ → Type 0
Cuts (escape is a e) r = (b : ℕ) × (bs : List ℕ) × (r ≡ b ∷ bs) × (is_intermediate b ≡ false) × (ends_escape b ≡ false)
Cuts (sequence c ps is s p i e) r = (b : ℕ) × (bs : List ℕ) × (r ≡ b ∷ bs) × (is_intermediate b ≡ false) × (ends_sequence b ≡ false) × (is ≡ [] → is_parameter b ≡ false)
Cuts (string k c body o s a e) r = (b : ℕ) × (bs : List ℕ) × (r ≡ b ∷ bs) × (is_body b ≡ false) × (begins 0x9C r ≡ false) × (b ≡ 0x1B → 0 < length bs)
Cuts (sos c body s f e) r = begins 0x98 r ≡ true

-- a command string whose last byte is an ESC that may begin its ST
pub record Awaiting (x : List ℕ) : Type 0 where
  pub by : ℕ
  pub opener : List ℕ
  pub body : List ℕ
  pub spelled : x ≡ opener ++ (body ++ 0x1B ∷ [])
  pub known : is_opener by ≡ true
  pub opens : Spells by opener
  pub within : AllOf is_body body

-- x is an item of the kind, where r follows it
abbrev pub Form : Kind → List ℕ → List ℕ → Type 0
Form Text x r = (0 < length x) × AllOf is_graphic x × Stops is_graphic r
Form Control x r = (b : ℕ) × (x ≡ b ∷ []) × (is_lone b ≡ true)
Form Escape x r = Escaped x
Form Sequence x r = Sequenced x
Form String x r = Enclosed is_opener (AllOf is_body) x ⊎ Enclosed (λ k. nat_eq k 0x98) Free x
Form Broken x r = (g : Begun x) × Cuts g r
Form Rest x r = (r ≡ []) × (Begun x ⊎ Awaiting x)
