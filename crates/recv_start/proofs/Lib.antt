pub mod ReceiptLaws
