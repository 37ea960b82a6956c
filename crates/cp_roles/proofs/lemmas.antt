pub mod TextsWritten
