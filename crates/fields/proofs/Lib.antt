pub mod ByteLaws
pub mod ValueLaws
pub mod TextLaws
pub mod FieldLaws
pub mod DecimalLaws
pub mod JoinLaws
