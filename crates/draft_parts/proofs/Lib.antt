mod PartsWritten
